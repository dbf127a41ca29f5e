-- Block 4, read from the left: what begins at each line, and where each content ends.
-- Offsets count from the text's first byte; `bs` is what is left of the text from offset `i` on.
use Rattle.std.specs.Prelude.{ℕ, zero, suc, ◌+◌, ◌-◌, Bool, cond, ◌||◌, List, [], ◌∷◌, length, drop, Some, None, Ok, Err, Option, Result, ◌==◌, slice_index}
use Rattle.mt_text.specs.Refusals.{Refusal, refused_at}
use Rattle.fields.specs.declared.tags.Tag.{Tag}
use Rattle.fields.specs.declared.scan.Field.{Field}
use Rattle.fields.specs.declared.scan.Body.{Body}
use Rattle.fields.specs.declared.scan.Next.{Next}
use Rattle.fields.specs.declared.scan.Next.TheVariants.{More, End}
use Rattle.fields.specs.Tags.{tag_at, width}

-- what no line holds: '{' (123), '}' (125), and an LF (10) that no CR stands before
abbrev pub barred : ℕ → Bool
barred b = b == 123 || (b == 125 || b == 10)

-- a line that begins with ':' (58) or '-' (45) ends the content before it
abbrev pub opens : ℕ → Bool
opens b = b == 58 || b == 45

-- Where a content ends: at the CR LF (13, 10) before the next line that begins with ':' or '-'.
-- `line` is the offset of the line that we are in: a fault stands there.
abbrev pub content_end : ℕ → ℕ → List ℕ → Result ℕ Refusal
content_end line i [] = refused_at 5 line
content_end line i (b ∷ []) = refused_at 5 line
content_end line i (b ∷ c ∷ bs) =
    cond (b == 13)
    (cond (c == 10) (cond (opens (slice_index bs 0)) (Ok i) (content_end (i + 2) (i + 2) bs)) (refused_at 5 line))
    (cond (barred b) (refused_at 5 line) (content_end line (i + 1) (c ∷ bs)))

-- the field of this tag that begins at i and whose content ends at e
abbrev pub field_to : ℕ → Tag → ℕ → Next
field_to i t e = More (record { tag = t; at = i; content_at = i + width t; len = e - (i + width t) })

abbrev pub with_end : (ℕ → Next) → Result ℕ Refusal → Result Next Refusal
with_end f (Ok e) = Ok (f e)
with_end f (Err x) = Err x

abbrev pub tagged : ℕ → List ℕ → Option Tag → Result Next Refusal
tagged i bs None = refused_at 5 i
tagged i bs (Some t) = with_end (field_to i t) (content_end i (i + width t) (drop (width t) bs))

-- what begins with the line at i: the end, which is "-}", or a field
abbrev pub next_at : ℕ → List ℕ → Result Next Refusal
next_at i bs = cond (slice_index bs 0 == 45) (cond (slice_index bs 1 == 125) (Ok (End i)) (refused_at 5 i)) (tagged i bs (tag_at bs))

-- where the line behind a field begins: behind its content and a CR LF
abbrev pub behind : Field → ℕ
behind f = f.content_at + f.len + 2

-- the fields of block 4, and where its closing hyphen stands
pub record Found : Type 0 where
  pub fields : List Field
  pub hyphen : ℕ

abbrev pub with_field : Field → Result Found Refusal → Result Found Refusal
with_field f (Ok b) = Ok (record { fields = f ∷ b.fields; hyphen = b.hyphen })
with_field f (Err x) = Err x

-- one step, and then the rest from where it ended
abbrev pub step_then : (ℕ → Result Found Refusal) → Result Next Refusal → Result Found Refusal
step_then rest (Ok (More f)) = with_field f (rest (behind f))
step_then rest (Ok (End h)) = Ok (record { fields = []; hyphen = h })
step_then rest (Err x) = Err x

-- the fields from offset i on, of which there are fewer than `most`
abbrev pub body_within : ℕ → List ℕ → ℕ → Result Found Refusal
body_within zero text i = refused_at 5 i
body_within (suc most) text i = step_then (λ j. body_within most text j) (next_at i (drop i text))

-- a text has fewer fields than it has bytes
abbrev pub body_at : List ℕ → ℕ → Result Found Refusal
body_at text i = body_within (suc (length text)) text i

-- how many fields there are
abbrev pub sized : Result Found Refusal → Result Body Refusal
sized (Ok b) = Ok (record { fields = length b.fields; hyphen = b.hyphen })
sized (Err x) = Err x
