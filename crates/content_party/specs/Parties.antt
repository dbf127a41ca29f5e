-- Parties: an account line, which may be absent, and a bank code.
use Rattle.std.specs.Prelude.{ℕ, ◌+◌, Bool, cond, ◌&&◌, ◌||◌, List, [], ◌++◌, length, take, drop, is_some, Some, None, codes, Option, ◌==◌, slice_index}
use Rattle.mt_text.specs.Classes.{capital, alphanumeric, every}
use Rattle.contents.specs.Digits.{and_then}
use Rattle.content_lines.specs.Formats.{Format, party}
use Rattle.content_lines.specs.Lines.{is_line, line_end, first_line, next_of}
use Rattle.content_party.specs.declared.parties.Places.{Places}
use Rattle.content_party.specs.declared.parties.Places.TheVariants.{EightOrEleven, ElevenOnly}
use Rattle.content_party.specs.declared.parties.Party.{Party}
use Rattle.content_party.specs.declared.parties.Part.{Part}

-- how many places a bank code may have
abbrev pub places_fit : Places → ℕ → Bool
places_fit EightOrEleven n = n == 8 || n == 11
places_fit ElevenOnly n = n == 11

-- 4!a2!a2!c[3!c]: six capitals, then capitals and digits
abbrev pub is_code : Places → List ℕ → Bool
is_code places code = places_fit places (length code) && (every capital (take 6 code) && every alphanumeric (drop 6 code))

-- where the account begins in its line: behind the slash (47), or behind a capital and its slash
abbrev pub account_at : List ℕ → ℕ
account_at line = cond (capital (slice_index line 1) && slice_index line 2 == 47) 3 1

-- an account line begins with a slash and has an account
abbrev pub account_in : List ℕ → Option (List ℕ)
account_in line = cond (slice_index line 0 == 47 && is_line 34 (drop (account_at line) line)) (Some (drop (account_at line) line)) None

-- the parts that are handed out, each with its place
pub data Parts : Type 0 where
  code : List ℕ → ℕ → Parts
  account_and_code : List ℕ → ℕ → List ℕ → ℕ → Parts

-- one line is the bank code; of two lines the first is the account line
abbrev pub one_line : List ℕ → Bool
one_line bs = line_end bs == length bs

abbrev pub party_of : Places → List ℕ → Option Parts
party_of places bs =
    cond (one_line bs)
    (cond (is_code places bs) (Some (code bs 0)) None)
    (and_then (next_of bs) (λ c. cond (is_code places c) (and_then (account_in (first_line bs)) (λ a. Some (account_and_code a (account_at (first_line bs)) c (line_end bs + 2)))) None))

-- what `read_party` tells, its parts by their bytes
abbrev pub parts_in : Option Part → Part → Parts
parts_in None c = code c.bytes.now c.at
parts_in (Some a) c = account_and_code a.bytes.now a.at c.bytes.now c.at

abbrev pub parts_of : Option Party → Option Parts
parts_of (Some p) = Some (parts_in p.account p.code)
parts_of None = None

-- the account that a party tells, if it has an account line
abbrev pub account_of : Option Parts → Option (List ℕ)
account_of (Some (code c at)) = None
account_of (Some (account_and_code a a_at c c_at)) = Some a
account_of None = None

-- where the bank code begins; before it stands the account line with its CR LF, or nothing
abbrev pub code_at : List ℕ → ℕ
code_at bs = cond (one_line bs) 0 (line_end bs + 2)

abbrev pub head_part : List ℕ → List ℕ
head_part bs = take (code_at bs) bs

abbrev pub code_part : List ℕ → List ℕ
code_part bs = drop (code_at bs) bs

-- what a code of eight places lacks
abbrev pub filling : List ℕ → List ℕ
filling c = cond (length c == 8) (codes "XXX") []

abbrev pub party_format : Places → Format (Option (List ℕ))
party_format places = record { accepts = λ bs. is_some (party_of places bs); says = λ bs. party (head_part bs) (code_part bs ++ filling (code_part bs)); normal = λ bs. bs ++ filling (code_part bs); value = λ bs. account_of (party_of places bs) }
