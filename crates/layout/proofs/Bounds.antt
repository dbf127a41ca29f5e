-- The parts that were found stand in the text.
use Rattle.std.proofs.Common.{◌≡◌, ℕ, ◌+◌, ◌<◌, ◌≤◌, Bool, true, false, cond, List, length, take, drop, Some, None, Ok, Err, Option, Result, sym, refl, ap, ◌∙◌, ⊎_elim, arith}
use Rattle.std.proofs.lemmas.List.{drop_all}
use Rattle.std.proofs.lemmas.Bool.{cases_lt}
use Rattle.mt_text.specs.Refusals.{Refusal, refused_at}
use Rattle.headers.specs.declared.application.Application.{Application}
use Rattle.headers.specs.declared.application.Direction.TheVariants.{Input, Output}
use Rattle.headers.specs.Basic.{is_basic}
use Rattle.headers.specs.Application.{is_input, is_output, type_of, application_of}
use Rattle.fields.specs.declared.scan.Body.{Body}
use Rattle.fields.specs.Fields.{Found, body_at, body_within, next_at, step_then, sized}
use Rattle.fields.proofs.Backs.{accepted}
use Rattle.layout.specs.Walk.{wanted, application_at}

-- block 2 has 21 bytes or 51
width_of : (bs : List ℕ) (a : Application) → Some a ≡ application_of bs → a.width ≤ 51
width_of bs a e = by (is_input (take 21 bs)) (is_output (take 51 bs)) e
  where
    by : (x y : Bool) → Some a ≡ cond x (Some (record { direction = Input; message_type = type_of (take 21 bs); width = 21 })) (cond y (Some (record { direction = Output; message_type = type_of (take 51 bs); width = 51 })) None) → a.width ≤ 51
    by true y p = let w : a.width ≡ 21 = cc in omega arith
    by false true p = let w : a.width ≡ 51 = cc in omega arith
    by false false p = absurd (grind arith)

pub application_width : (text : List ℕ) (a : Application) → Ok a ≡ application_at text → a.width ≤ 51
application_width text a e = by (is_basic (take 29 text)) (application_of (drop 29 text)) refl e
  where
    by : (x : Bool) (o : Option Application) → application_of (drop 29 text) ≡ o → Ok a ≡ cond x (wanted o 29) (refused_at 3 0) → a.width ≤ 51
    by true (Some b) q p = let s : a ≡ b = cc in width_of (drop 29 text) a (ap Some s ∙ sym q)
    by true None q p = absurd (grind arith)
    by false o q p = absurd (grind arith)

-- past the end of the text there is no block 4
past_end : (text : List ℕ) (i : ℕ) → length text < i → body_at text i ≡ refused_at 5 i
past_end text i h = ap (λ l. step_then (λ j. body_within (length text) text j) (next_at i l)) (drop_all i text (omega arith))

-- the closing hyphen and brace stand in the text
pub hyphen_within : (text : List ℕ) (i : ℕ) (b : Body) → Ok b ≡ sized (body_at text i) → b.hyphen + 2 ≤ length text
hyphen_within text i b e = by (body_at text i) refl e
  where
    by : (r : Result Found Refusal) → body_at text i ≡ r → Ok b ≡ sized r → b.hyphen + 2 ≤ length text
    by (Ok f) q p =
        let h : b.hyphen ≡ f.hyphen = cc in
        ⊎_elim
        (λ l. let n = past_end text i l in absurd (grind arith))
        (λ l. omega (arith, (accepted text i f l q).within))
        (cases_lt (length text) i)
    by (Err x) q p = absurd (grind arith)
