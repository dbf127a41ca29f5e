-- The walk over a text from the left: the first part that is not as it must be is refused, where it begins.
use Rattle.std.specs.Prelude.{ℕ, ◌+◌, cond, List, [], ◌∷◌, ◌++◌, length, take, drop, Some, None, Ok, Err, codes, Option, Result, ◌==◌, nat_lt}
use Rattle.mt_text.specs.Refusals.{Refusal, refused_at}
use Rattle.mt_text.specs.Bytes.{checked}
use Rattle.headers.specs.declared.application.Application.{Application}
use Rattle.headers.specs.declared.user.UserBlock.{UserBlock}
use Rattle.headers.specs.Parts.{starts}
use Rattle.headers.specs.Basic.{is_basic}
use Rattle.headers.specs.Application.{application_of}
use Rattle.headers.specs.User.{user_at}
use Rattle.headers.specs.Trailer.{is_trailer}
use Rattle.fields.specs.declared.scan.Body.{Body}
use Rattle.fields.specs.Fields.{body_at, sized}
use Rattle.layout.specs.declared.walk.Layout.{Layout}
use Rattle.layout.specs.declared.walk.Opening.{Opening}

-- go on with what was found, where nothing was refused
abbrev pub heed : {X Y : Type 0} → Result X Refusal → (X → Result Y Refusal) → Result Y Refusal
heed (Ok x) f = f x
heed (Err e) f = Err e

-- a part that must be there
abbrev pub wanted : {X : Type 0} → Option X → ℕ → Result X Refusal
wanted (Some x) at = Ok x
wanted None at = refused_at 3 at

-- block 1 at 0, and block 2 at 29
abbrev pub application_at : List ℕ → Result Application Refusal
application_at text = cond (is_basic (take 29 text)) (wanted (application_of (drop 29 text)) 29) (refused_at 3 0)

-- block 3, where the next bytes are its opening
abbrev pub opened : UserBlock → Result Opening Refusal
opened b = Ok (record { user = Some b.header; at = b.end })

abbrev pub opening_at : List ℕ → ℕ → Result Opening Refusal
opening_at text i = cond (starts (codes "{3:") (drop i text)) (heed (wanted (user_at text i) i) opened) (Ok (record { user = None; at = i }))

-- the opening of block 4 with its CR LF (13, 10): where the first line begins
abbrev pub body_start : List ℕ → ℕ → Result ℕ Refusal
body_start text i = cond (starts (codes "{4:" ++ 13 ∷ 10 ∷ []) (drop i text)) (Ok (i + 5)) (refused_at 3 i)

-- behind block 4: nothing, or block 5 and then nothing
abbrev pub end_at : List ℕ → ℕ → Result (Unit {0}) Refusal
end_at text i =
    cond (length (drop i text) == 0) (Ok tt)
    (cond (is_trailer (take 22 (drop i text)))
    (cond (nat_lt 22 (length (drop i text))) (refused_at 3 (i + 22)) (Ok tt))
    (refused_at 3 i))

-- what the parts that were found make up
abbrev pub made_of : Application → Opening → ℕ → Body → Layout
made_of a o s b =
    record {
      direction = a.direction;
      message_type = a.message_type;
      headers_end = 29 + a.width;
      user = o.user;
      body = s;
      fields = b.fields;
      hyphen = b.hyphen;
    }

-- the blocks in their order
abbrev pub walked : List ℕ → Result Layout Refusal
walked text =
    heed (application_at text) (λ a.
    heed (opening_at text (29 + a.width)) (λ o.
    heed (body_start text o.at) (λ s.
    heed (sized (body_at text s)) (λ b.
    heed (end_at text (b.hyphen + 2)) (λ _.
    Ok (made_of a o s b))))))

-- length and bytes first, then the walk
abbrev pub laid_out : List ℕ → Result Layout Refusal
laid_out text = heed (checked text) (λ _. walked text)
