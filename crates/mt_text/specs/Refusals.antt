-- The refusals: what each case of `Fault` says, as a number and an offset.
use Rattle.std.specs.Prelude.{ℕ, List, ◌++◌, codes, decimal, Some, None, Ok, Err, Option, Result}
use Rattle.mt_text.specs.declared.fault.Fault.{Fault}
use Rattle.mt_text.specs.declared.fault.Fault.TheVariants.{Length, Byte, Block, UnknownType, Line, FieldCount, Tag, Missing, Content, Balance, NoAccount, WrongCall, OtherAccount, ShortBuffer, BadArgument, ReferenceTaken, RoomFull, NoOrder, OrderRefuses, NumberGap, OpeningDiffers}

-- a refusal: its number, and the offset in the text at which it stands, if it has one
pub data Refusal : Type 0 where
  refusal : ℕ → Option ℕ → Refusal

abbrev pub number_of : Refusal → ℕ
number_of (refusal n at) = n

abbrev pub offset_of : Refusal → Option ℕ
offset_of (refusal n at) = at

-- the whole list of causes
abbrev pub refusal_of : Fault → Refusal
refusal_of (Length at) = refusal 1 (Some at)
refusal_of (Byte at) = refusal 2 (Some at)
refusal_of (Block at) = refusal 3 (Some at)
refusal_of (UnknownType at) = refusal 4 (Some at)
refusal_of (Line at) = refusal 5 (Some at)
refusal_of (FieldCount at) = refusal 6 (Some at)
refusal_of (Tag at) = refusal 7 (Some at)
refusal_of (Missing at) = refusal 8 (Some at)
refusal_of (Content at) = refusal 9 (Some at)
refusal_of (Balance at) = refusal 10 (Some at)
refusal_of NoAccount = refusal 11 None
refusal_of WrongCall = refusal 12 None
refusal_of OtherAccount = refusal 13 None
refusal_of ShortBuffer = refusal 14 None
refusal_of BadArgument = refusal 15 None
refusal_of ReferenceTaken = refusal 16 None
refusal_of RoomFull = refusal 17 None
refusal_of NoOrder = refusal 18 None
refusal_of OrderRefuses = refusal 19 None
refusal_of NumberGap = refusal 20 None
refusal_of OpeningDiffers = refusal 21 None

-- how a refusal is printed: `refused 3 at 29`, or `refused 14` where it has no offset
abbrev pub printed : Refusal → List ℕ
printed (refusal n (Some at)) = codes "refused " ++ (decimal n ++ (codes " at " ++ decimal at))
printed (refusal n None) = codes "refused " ++ decimal n

-- a call's answer, its refusal told by number and offset
abbrev pub told : {X : Type 0} → Result X Fault → Result X Refusal
told (Ok x) = Ok x
told (Err f) = Err (refusal_of f)

-- refused by cause n at an offset, or by a cause that has none
abbrev pub refused_at : {X : Type 0} → ℕ → ℕ → Result X Refusal
refused_at n at = Err (refusal n (Some at))

abbrev pub refused : {X : Type 0} → ℕ → Result X Refusal
refused n = Err (refusal n None)
