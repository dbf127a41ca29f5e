-- A text as it is written from its parts, and that laying it out gives these parts back.
use Rattle.std.specs.Prelude.{◌≡◌, ℕ, ◌-◌, true, cond, ◌||◌, List, [], ◌∷◌, ◌++◌, map, take, drop, is_some, Some, None, Ok, Err, codes, Option, Result}
use Rattle.std.specs.Option.{option_map}
use Rattle.std.specs.List.{AllByRecursion}
use Rattle.mt_text.specs.Classes.{small}
use Rattle.mt_text.specs.Refusals.{Refusal}
use Rattle.mt_text.specs.Bytes.{checked}
use Rattle.headers.specs.declared.user.Span.{Span}
use Rattle.headers.specs.declared.user.UserHeader.{UserHeader}
use Rattle.headers.specs.declared.user.Item.{Item}
use Rattle.headers.specs.declared.user.Item.TheVariants.{UserReference, ServiceType, Priority, Tracking}
use Rattle.headers.specs.Basic.{is_basic}
use Rattle.headers.specs.Application.{is_input, is_output}
use Rattle.headers.specs.User.{value_ok}
use Rattle.fields.specs.Fields.{Found, body_at}
use Rattle.fields.specs.Written.{Item as FieldItem, ItemOk, written, shown}
use Rattle.layout.specs.declared.walk.Layout.{Layout}
use Rattle.layout.specs.Walk.{laid_out}

-- the values of block 3
pub record User : Type 0 where
  pub reference : Option (List ℕ)
  pub service : Option (List ℕ)
  pub priority : Option (List ℕ)
  pub tracking : Option (List ℕ)

-- the parts of a text: blocks 1 and 2 as they are, block 3 if it is there, and the fields
pub record Parts : Type 0 where
  pub basic : List ℕ
  pub application : List ℕ
  pub user : Option User
  pub fields : List FieldItem

-- ---- what is written

-- an item of block 3, if its value is given: opening, value, '}' (125), and what follows it
abbrev pub item_then : List ℕ → Option (List ℕ) → List ℕ → List ℕ
item_then opening None after = after
item_then opening (Some v) after = opening ++ (v ++ 125 ∷ after)

-- block 3 in rising order of its items, and what follows it
abbrev pub user_then : Option User → List ℕ → List ℕ
user_then None after = after
user_then (Some u) after =
    codes "{3:"
    ++ item_then (codes "{108:") u.reference
    (item_then (codes "{111:") u.service
    (item_then (codes "{113:") u.priority
    (item_then (codes "{121:") u.tracking
    (125 ∷ after))))

-- the whole text: blocks 1 and 2, block 3, `{4:` CR LF, the fields and `-}`; no block 5
abbrev pub rendered : Parts → List ℕ
rendered p = p.basic ++ (p.application ++ user_then p.user (codes "{4:" ++ 13 ∷ 10 ∷ written p.fields []))

-- ---- which parts can be written

abbrev pub ValueFits : Item → Option (List ℕ) → Type 0
ValueFits k None = Unit {0}
ValueFits k (Some v) = value_ok k v ≡ true

-- each value as its item asks, and at least one of them given
pub record UserOk (u : User) : Type 0 where
  pub reference : ValueFits UserReference u.reference
  pub service : ValueFits ServiceType u.service
  pub priority : ValueFits Priority u.priority
  pub tracking : ValueFits Tracking u.tracking
  pub some : (is_some u.reference || (is_some u.service || (is_some u.priority || is_some u.tracking))) ≡ true

abbrev pub UserFits : Option User → Type 0
UserFits None = Unit {0}
UserFits (Some u) = UserOk u

-- each part as it must be
pub record PartsOk (p : Parts) : Type 0 where
  pub basic : is_basic p.basic ≡ true
  pub application : (is_input p.application || is_output p.application) ≡ true
  pub user : UserFits p.user
  pub fields : AllByRecursion ItemOk p.fields

-- and the whole has a text's length and bytes
pub record WellFormed (p : Parts) : Type 0 where
  pub parts : PartsOk p
  pub bytes : checked (rendered p) ≡ Ok tt

-- ---- what a layout found

-- the bytes of a value
abbrev pub bytes_at : List ℕ → Span → List ℕ
bytes_at text s = take s.len (drop s.at text)

abbrev pub values_of : List ℕ → UserHeader → User
values_of text h =
    record {
      reference = option_map (bytes_at text) h.user_reference;
      service = option_map (bytes_at text) h.service_type;
      priority = option_map (bytes_at text) h.priority;
      tracking = option_map (bytes_at text) h.tracking;
    }

abbrev pub fields_of : List ℕ → Result Found Refusal → List FieldItem
fields_of text (Ok b) = map (shown text) b.fields
fields_of text (Err x) = []

abbrev pub parts_of : List ℕ → Layout → Parts
parts_of text l =
    record {
      basic = take 29 text;
      application = take (l.headers_end - 29) (drop 29 text);
      user = option_map (values_of text) l.user;
      fields = fields_of text (body_at text l.body);
    }

-- ---- the round trip

-- what is written from well-formed parts is laid out without fault, and these parts are found in it
pub record LaysOut (p : Parts) (l : Layout) : Type 0 where
  pub laid : laid_out (rendered p) ≡ Ok l
  pub parts : parts_of (rendered p) l ≡ p

abbrev pub RoundTrip : Type 0
RoundTrip = (p : Parts) → WellFormed p → (l : Layout) × LaysOut p l

-- the other way round, the parts that are found in a text are as they must be
abbrev pub Accepted : Type 0
Accepted = (text : List ℕ) (l : Layout) → laid_out text ≡ Ok l → PartsOk (parts_of text l)

-- ---- normal order

-- a small letter as its capital
abbrev pub capital_of : ℕ → ℕ
capital_of b = cond (small b) (b - 32) b

-- item 113 in capitals
abbrev pub in_capitals : User → User
in_capitals u = record { reference = u.reference; service = u.service; priority = option_map (map capital_of) u.priority; tracking = u.tracking }

-- the text that a layout is written as in normal order: block 3 by rising items, 113 in capitals, no block 5
abbrev pub in_normal_order : Parts → Parts
in_normal_order p = record { basic = p.basic; application = p.application; user = option_map in_capitals p.user; fields = p.fields }

abbrev pub reordered : List ℕ → Layout → List ℕ
reordered text l = rendered (in_normal_order (parts_of text l))
