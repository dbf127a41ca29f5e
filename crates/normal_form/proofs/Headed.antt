-- The type and the direction of a text that is laid out follow from the bytes of its block 2.
use Rattle.std.proofs.Common.{◌≡◌, ℕ, ◌+◌, ◌-◌, Bool, true, false, cond, eqb, List, length, take, drop, Some, None, Ok, Err, Option, Result, sym, refl, ap, ◌∙◌, subst, arith}
use Rattle.std.proofs.lemmas.Bool.{and_parts, and_left, eqb-true}
use Rattle.mt_text.specs.Refusals.{Refusal, refused_at}
use Rattle.mt_text.specs.Bytes.{checked}
use Rattle.headers.specs.declared.application.Application.{Application}
use Rattle.headers.specs.declared.application.Direction.{Direction}
use Rattle.headers.specs.declared.application.Direction.TheVariants.{Input, Output}
use Rattle.headers.specs.Basic.{is_basic}
use Rattle.headers.specs.Application.{is_input, is_output, type_of, application_of}
use Rattle.fields.specs.Fields.{body_at, sized}
use Rattle.layout.specs.declared.walk.Layout.{Layout}
use Rattle.layout.specs.Walk.{heed, wanted, application_at, opening_at, body_start, end_at, made_of, walked, laid_out}
use Rattle.layout.specs.Render.{parts_of}

-- where a whole succeeded, its first part did, and the rest on what that found
heed_back : {X Y : Type 0} (r : Result X Refusal) (f : X → Result Y Refusal) (y : Y) → heed r f ≡ Ok y → (x : X) × (r ≡ Ok x) × (f x ≡ Ok y)
heed_back (Ok x) f y e = (x, refl, e)
heed_back (Err z) f y e = absurd (grind arith)

-- a part that was wanted was there
wanted_back : {X : Type 0} (o : Option X) (at : ℕ) (x : X) → wanted o at ≡ Ok x → o ≡ Some x
wanted_back (Some z) at x e = let s : z ≡ x = cc in ap Some s
wanted_back None at x e = absurd (grind arith)

-- the type and the direction are those that the bytes of a block 2 tell
pub record Headed (block : List ℕ) (type : ℕ) (direction : Direction) : Type 0 where
  pub type_is : type ≡ type_of block
  pub direction_is : direction ≡ cond (is_input block) Input Output

-- a block 2 of output is none of input: it is longer
not_input : (block : List ℕ) → is_output block ≡ true → is_input block ≡ false
not_input block h =
    let long = eqb-true (length block) 51 (and_parts (eqb (length block) 51) _ h).0 in
    and_left (eqb (length block) 21) _ (ap (λ n. eqb n 21) long)

-- at the front of the bytes, behind block 1, and in the layout
application_headed : (bs : List ℕ) (a : Application) → application_of bs ≡ Some a → Headed (take a.width bs) a.message_type a.direction
application_headed bs a e = by (is_input (take 21 bs)) (is_output (take 51 bs)) refl refl e
  where
    by : (x y : Bool) → is_input (take 21 bs) ≡ x → is_output (take 51 bs) ≡ y → cond x (Some (record { direction = Input; message_type = type_of (take 21 bs); width = 21 })) (cond y (Some (record { direction = Output; message_type = type_of (take 51 bs); width = 51 })) None) ≡ Some a → Headed (take a.width bs) a.message_type a.direction
    by true y p q r =
        let same : record { direction = Input; message_type = type_of (take 21 bs); width = 21 } ≡ a = cc in
        subst (λ (b : Application). Headed (take b.width bs) b.message_type b.direction) same (record { type_is = refl; direction_is = ap (λ v. cond v Input Output) (sym p) })
    by false true p q r =
        let same : record { direction = Output; message_type = type_of (take 51 bs); width = 51 } ≡ a = cc in
        subst (λ (b : Application). Headed (take b.width bs) b.message_type b.direction) same (record { type_is = refl; direction_is = ap (λ v. cond v Input Output) (sym (not_input (take 51 bs) q)) })
    by false false p q r = absurd (grind arith)

application_at_headed : (text : List ℕ) (a : Application) → application_at text ≡ Ok a → Headed (take a.width (drop 29 text)) a.message_type a.direction
application_at_headed text a e = by (is_basic (take 29 text)) e
  where
    by : (x : Bool) → cond x (wanted (application_of (drop 29 text)) 29) (refused_at 3 0) ≡ Ok a → Headed (take a.width (drop 29 text)) a.message_type a.direction
    by true q = application_headed (drop 29 text) a (wanted_back (application_of (drop 29 text)) 29 a q)
    by false q = absurd (grind arith)

pub laid_headed : (text : List ℕ) (l : Layout) → laid_out text ≡ Ok l → Headed (parts_of text l).application l.message_type l.direction
laid_headed text l e =
    let h0 = heed_back (checked text) (λ _. walked text) l e in
    let h1 = heed_back (application_at text) _ l h0.2 in
    let a = h1.0 in
    let h2 = heed_back (opening_at text (29 + a.width)) _ l h1.2 in
    let o = h2.0 in
    let h3 = heed_back (body_start text o.at) _ l h2.2 in
    let s = h3.0 in
    let h4 = heed_back (sized (body_at text s)) _ l h3.2 in
    let b = h4.0 in
    let h5 = heed_back (end_at text (b.hyphen + 2)) (λ _. Ok (made_of a o s b)) l h4.2 in
    let q = h5.2 in
    let same : made_of a o s b ≡ l = cc in
    let w : a.width ≡ (29 + a.width) - 29 = omega arith in
    let h = subst (λ (n : ℕ). Headed (take n (drop 29 text)) a.message_type a.direction) w (application_at_headed text a h1.1) in
    subst (λ (k : Layout). Headed (parts_of text k).application k.message_type k.direction) same h

-- texts with one block 2 have one type
pub same_type : (s t : List ℕ) (k l : Layout) → laid_out s ≡ Ok k → laid_out t ≡ Ok l → (parts_of s k).application ≡ (parts_of t l).application → k.message_type ≡ l.message_type
same_type s t k l p q e = (laid_headed s k p).type_is ∙ ap type_of e ∙ sym (laid_headed t l q).type_is
