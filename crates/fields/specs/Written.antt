-- Block 4 as it is written, and that reading gives back what was written.
use Rattle.std.specs.Prelude.{◌≡◌, ℕ, ◌+◌, ◌≤◌, Bool, true, cond, not, ◌&&◌, List, [], ◌∷◌, ◌++◌, map, length, take, drop, Some, None, Ok, Option, ◌==◌, slice_index}
use Rattle.std.specs.List.{AllByRecursion}
use Rattle.mt_text.specs.Classes.{digit, capital}
use Rattle.fields.specs.declared.tags.Tag.{Tag}
use Rattle.fields.specs.declared.scan.Field.{Field}
use Rattle.fields.specs.Fields.{Found, barred, opens, body_at}

-- a field as it is meant: its tag, and its content's bytes
pub record Item : Type 0 where
  pub tag : Tag
  pub content : List ℕ

abbrev pub letter_ok : Option ℕ → Bool
letter_ok None = true
letter_ok (Some c) = capital c

abbrev pub tag_ok : Tag → Bool
tag_ok t = digit t.tens && (digit t.units && letter_ok t.letter)

-- a content that can be written: no brace, CR and LF only as CR LF, and behind a CR LF neither ':' nor '-'
abbrev pub content_ok : List ℕ → Bool
content_ok [] = true
content_ok (b ∷ []) = not (b == 13) && not (barred b)
content_ok (b ∷ c ∷ bs) = cond (b == 13) (c == 10 && (not (opens (slice_index bs 0)) && content_ok bs)) (not (barred b) && content_ok (c ∷ bs))

pub record ItemOk (x : Item) : Type 0 where
  pub tag : tag_ok x.tag ≡ true
  pub content : content_ok x.content ≡ true

-- a tag's letter, and what follows it
abbrev pub letter_then : Option ℕ → List ℕ → List ℕ
letter_then None after = after
letter_then (Some c) after = c ∷ after

-- ':' tag ':' content CR LF, and what follows it
abbrev pub field_then : Item → List ℕ → List ℕ
field_then x after = 58 ∷ x.tag.tens ∷ x.tag.units ∷ letter_then x.tag.letter (58 ∷ (x.content ++ 13 ∷ 10 ∷ after))

-- each field, then "-}", and what follows it
abbrev pub written : List Item → List ℕ → List ℕ
written [] after = 45 ∷ 125 ∷ after
written (x ∷ xs) after = field_then x (written xs after)

-- a field that was found in the text, as it is meant
abbrev pub shown : List ℕ → Field → Item
shown text f = record { tag = f.tag; content = take f.len (drop f.content_at text) }

-- reading the text from i on finds these fields, and `after` behind the closing brace
pub record Finds (text : List ℕ) (i : ℕ) (xs : List Item) (after : List ℕ) (b : Found) : Type 0 where
  pub found : body_at text i ≡ Ok b
  pub same : map (shown text) b.fields ≡ xs
  pub ends : b.hyphen + 2 + length after ≡ length text
  pub rest : drop (b.hyphen + 2) text ≡ after

-- what is written is read as it was meant, wherever it stands and whatever follows
abbrev pub RoundTrip : Type 0
RoundTrip = (before : List ℕ) (xs : List Item) (after : List ℕ) → AllByRecursion ItemOk xs → (b : Found) × Finds (before ++ written xs after) (length before) xs after b

-- what is read without fault stands there as it would be written
pub record Reads (text : List ℕ) (i : ℕ) (b : Found) : Type 0 where
  pub same : drop i text ≡ written (map (shown text) b.fields) (drop (b.hyphen + 2) text)
  pub ok : AllByRecursion ItemOk (map (shown text) b.fields)
  pub within : b.hyphen + 2 ≤ length text

abbrev pub Accepted : Type 0
Accepted = (text : List ℕ) (i : ℕ) (b : Found) → i ≤ length text → body_at text i ≡ Ok b → Reads text i b
