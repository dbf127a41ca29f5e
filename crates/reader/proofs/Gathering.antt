-- What the fields so far and the fields that are left tell together.
use Rattle.std.proofs.Common.{◌≡◌, ℕ, ◌+◌, ◌*◌, ◌^◌, ◌≤◌, Bool, true, false, cond, List, [], ◌∷◌, length, ℤ, pos, ◌+ℤ◌, neg_ℤ, ◌≤ℤ◌, is_some, unwrap_or, IfSome, Some, None, Ok, Err, Option, Result, sym, refl, ap, ◌∙◌, subst, arith, w64, SFits}
use Rattle.std.specs.Option.{option_or}
use Rattle.std.proofs.lemmas.Int.{ints}
use Rattle.std.proofs.lemmas.Bool.{cond-true, cond-false}
use Rattle.mt_text.specs.Refusals.{Refusal, refused_at}
use Rattle.content_money.specs.declared.balances.Balance.{Balance}
use Rattle.fields.specs.declared.scan.Field.{Field}
use Rattle.fields.specs.Written.{shown}
use Rattle.layout.specs.Walk.{heed}
use Rattle.reader.specs.declared.interface.Row.{Row}
use Rattle.reader.specs.Values.{Told, untold, joined}
use Rattle.reader.specs.Meaning.{Meaning, IfTold, Bounded, BalanceOk, ToldOk, KeepsLaws}
use Rattle.reader.specs.Rows.{Place, no_row, short, here, seek, filled, Taken, with_taken, take_in, assigned}
use Rattle.reader.specs.Texts.{told_in, values_in, closing_at, Sum, sum_of}
use Rattle.reader.specs.Sums.{AddsUp}
use Rattle.reader.specs.Steps.{Forward, forward}

-- ---- values, joined one after the other

first_assoc : {X : Type 0} (a b c : Option X) → option_or a (option_or b c) ≡ option_or (option_or a b) c
first_assoc (Some x) b c = refl
first_assoc None b c = refl

sum_assoc : (a b c : ℤ) → a +ℤ (b +ℤ c) ≡ (a +ℤ b) +ℤ c
sum_assoc a b c = omega (arith, ints)

none_first : (a : ℤ) → pos 0 +ℤ a ≡ a
none_first a = omega (arith, ints)

pub joined_none : (v : Told) → joined untold v ≡ v
joined_none v =
    λ i. record { reference = v.reference; related = v.related; account = v.account; money = v.money; number = v.number; opening = v.opening; lines = none_first v.lines i; closing = v.closing; answer = v.answer }

-- nothing behind
last_none : {X : Type 0} (a : Option X) → option_or a None ≡ a
last_none (Some x) = refl
last_none None = refl

none_last : (a : ℤ) → a +ℤ pos 0 ≡ a
none_last a = omega (arith, ints)

pub joined_last : (v : Told) → joined v untold ≡ v
joined_last v =
    λ i. record {
      reference = last_none v.reference i;
      related = last_none v.related i;
      account = last_none v.account i;
      money = last_none v.money i;
      number = last_none v.number i;
      opening = last_none v.opening i;
      lines = none_last v.lines i;
      closing = last_none v.closing i;
      answer = last_none v.answer i;
    }

joined_assoc : (a b c : Told) → joined a (joined b c) ≡ joined (joined a b) c
joined_assoc a b c =
    λ i. record {
      reference = first_assoc a.reference b.reference c.reference i;
      related = first_assoc a.related b.related c.related i;
      account = first_assoc a.account b.account c.account i;
      money = first_assoc a.money b.money c.money i;
      number = first_assoc a.number b.number c.number i;
      opening = first_assoc a.opening b.opening c.opening i;
      lines = sum_assoc a.lines b.lines c.lines i;
      closing = first_assoc a.closing b.closing c.closing i;
      answer = first_assoc a.answer b.answer c.answer i;
    }

-- what holds of both holds of the first of them that is told
told_first : {X : Type 0} (P : X → Type 0) (a b : Option X) → IfTold P a → IfTold P b → IfTold P (option_or a b)
told_first P (Some x) b h k = h
told_first P None b h k = k

-- ---- signed lines stay small

-- n signed lines come to less than n times 10^16 hundredths
pub record Few (n : ℕ) (z : ℤ) : Type 0 where
  pub low : neg_ℤ (pos (n * 10 ^ 16)) ≤ℤ z
  pub high : z ≤ℤ pos (n * 10 ^ 16)

pub few_more : (n : ℕ) (a b : ℤ) → Few n a → Bounded b → Few (n + 1) (a +ℤ b)
few_more n a b f g = record { low = omega (arith, ints, f.low, g.above); high = omega (arith, ints, f.high, g.below) }

pub few_behind : (n : ℕ) (a b : ℤ) → Bounded a → Few n b → Few (n + 1) (a +ℤ b)
few_behind n a b g f = record { low = omega (arith, ints, f.low, g.above); high = omega (arith, ints, f.high, g.below) }

pub few_fits : (n : ℕ) (z : ℤ) → n ≤ 44 → Few n z → SFits w64 z
few_fits n z h f = omega (arith, ints, f.low, f.high)

-- ---- one field

-- a field that is taken, as the walk has it
pub record Forwarded {F : Type 0} (m : Meaning F) (text : List ℕ) (h n : ℕ) (rs : List (Row F)) (f : Field) (s : Forward F) : Type 0 where
  pub format : F
  pub accepted : (m.format format).accepts (shown text f).content ≡ true
  pub tells : (m.format format).value (shown text f).content ≡ s.told
  pub goes_on : (fs : List Field) → assigned m text h n rs (f ∷ fs) ≡ with_taken (record { format = format; field = f }) (assigned m text h s.count s.rows fs)

module _ {F : Type 0} (m : Meaning F) (text : List ℕ) (h n : ℕ) (rs : List (Row F)) (f : Field) where
  pub forwarded : (s : Forward F) → Ok s ≡ forward m text f (seek f.tag n rs) → Forwarded m text h n rs f s
  forwarded s e = by (seek f.tag n rs) refl e
    where
      at_row : (r : Row F) (qs : List (Row F)) (k : ℕ) → seek f.tag n rs ≡ here r qs k → (b : Bool) → (m.format r.format).accepts (shown text f).content ≡ b → Ok s ≡ cond b (Ok (record { rows = r ∷ qs; count = k; told = (m.format r.format).value (shown text f).content })) (refused_at 9 f.content_at) → Forwarded m text h n rs f s
      at_row r qs k q false a p = absurd (grind arith)
      at_row r qs k q true a p =
          let same : s ≡ record { rows = r ∷ qs; count = k; told = (m.format r.format).value (shown text f).content } = cc in
          record {
            format = r.format;
            accepted = a;
            tells = sym (ap (λ s. s.told) same);
            goes_on = λ fs.
                ap (λ p. take_in m text f p (λ k qs. assigned m text h k qs fs)) q
                ∙ cond-true ((m.format r.format).accepts (shown text f).content) _ _ a
                ∙ (λ i. with_taken (record { format = r.format; field = f }) (assigned m text h (sym same i).count (sym same i).rows fs));
          }

      by : (p : Place F) → seek f.tag n rs ≡ p → Ok s ≡ forward m text f p → Forwarded m text h n rs f s
      by no_row q p = absurd (grind arith)
      by short q p = absurd (grind arith)
      by (here r qs k) q p = at_row r qs k q ((m.format r.format).accepts (shown text f).content) refl p

  pub not_forwarded : (x : Refusal) → Err x ≡ forward m text f (seek f.tag n rs) → (fs : List Field) → assigned m text h n rs (f ∷ fs) ≡ Err x
  not_forwarded x e fs = by (seek f.tag n rs) refl e
    where
      at_row : (r : Row F) (qs : List (Row F)) (k : ℕ) → seek f.tag n rs ≡ here r qs k → (b : Bool) → (m.format r.format).accepts (shown text f).content ≡ b → ◌≡◌ {A = Result (Forward F) Refusal} (Err x) (cond b (Ok (record { rows = r ∷ qs; count = k; told = (m.format r.format).value (shown text f).content })) (refused_at 9 f.content_at)) → assigned m text h n rs (f ∷ fs) ≡ Err x
      at_row r qs k q true a p = absurd (grind arith)
      at_row r qs k q false a p =
          ap (λ p. take_in m text f p (λ k qs. assigned m text h k qs fs)) q
          ∙ cond-false ((m.format r.format).accepts (shown text f).content) _ _ a
          ∙ cc

      by : (p : Place F) → seek f.tag n rs ≡ p → Err x ≡ forward m text f p → assigned m text h n rs (f ∷ fs) ≡ Err x
      by no_row q p = ap (λ p. take_in m text f p (λ k qs. assigned m text h k qs fs)) q ∙ cc
      by short q p = ap (λ p. take_in m text f p (λ k qs. assigned m text h k qs fs)) q ∙ cc
      by (here r qs k) q p = at_row r qs k q ((m.format r.format).accepts (shown text f).content) refl p

-- ---- the sum, on from values that were gathered

abbrev pub sum_on : {F : Type 0} → Meaning F → List ℕ → Told → Option ℕ → List (Taken F) → Sum
sum_on m text v at ts = record { values = joined v (values_in m text ts); closing_at = unwrap_or at (closing_at m text ts) }

-- where a field stands, if it tells a closing
abbrev pub place_of : Bool → ℕ → Option ℕ
place_of b at = cond b (Some at) None

place_first : (a : Option ℕ) (b : Bool) (at rest : ℕ) → unwrap_or a (cond b at rest) ≡ unwrap_or (option_or a (place_of b at)) rest
place_first (Some x) b at rest = refl
place_first None true at rest = refl
place_first None false at rest = refl

module _ {F : Type 0} (m : Meaning F) (text : List ℕ) where
  pub sum_start : (ts : List (Taken F)) → sum_on m text untold None ts ≡ sum_of m text ts
  sum_start ts = λ i. record { values = joined_none (values_in m text ts) i; closing_at = closing_at m text ts }

  pub sum_more : (v : Told) (at : Option ℕ) (t : Taken F) (ts : List (Taken F)) → sum_on m text v at (t ∷ ts) ≡ sum_on m text (joined v (told_in m text t)) (option_or at (place_of (is_some (told_in m text t).closing) t.field.at)) ts
  sum_more v at t ts =
      λ i. record {
        values = joined_assoc v (told_in m text t) (values_in m text ts) i;
        closing_at = place_first at (is_some (told_in m text t).closing) t.field.at (closing_at m text ts) i;
      }

-- the values so far, and the fields that are left, which make up the whole with the rows from the current one on
pub record Midway {F : Type 0} (m : Meaning F) (text : List ℕ) (hyphen : ℕ) (whole : Result Sum Refusal) (fs : List Field) (rows : List (Row F)) (count : ℕ) (v : Told) (at : Option ℕ) : Type 0 where
  pub done : ℕ
  pub few : done + length fs ≤ 43
  pub lines : Few done v.lines
  pub opening : IfTold BalanceOk v.opening
  pub closes : is_some at ≡ is_some v.closing
  pub is : heed (assigned m text hyphen count rows fs) (λ ts. Ok (sum_on m text v at ts)) ≡ whole

-- the same fields, said otherwise
pub with_fields : {F : Type 0} {m : Meaning F} {text : List ℕ} {hyphen : ℕ} {whole : Result Sum Refusal} {fs : List Field} {rows : List (Row F)} {count : ℕ} {v : Told} {at : Option ℕ} (gs : List Field) → fs ≡ gs → Midway m text hyphen whole fs rows count v at → Midway m text hyphen whole gs rows count v at
with_fields {m = m} {text = text} {hyphen = hyphen} {whole = whole} {rows = rows} {count = count} {v = v} {at = at} gs e mid = subst (λ hs. Midway m text hyphen whole hs rows count v at) e mid

-- and the same values
pub with_values : {F : Type 0} {m : Meaning F} {text : List ℕ} {hyphen : ℕ} {whole : Result Sum Refusal} {fs : List Field} {rows : List (Row F)} {count : ℕ} {v : Told} {at : Option ℕ} (w : Told) (bt : Option ℕ) → v ≡ w → at ≡ bt → Midway m text hyphen whole fs rows count v at → Midway m text hyphen whole fs rows count w bt
with_values {m = m} {text = text} {hyphen = hyphen} {whole = whole} {fs = fs} {rows = rows} {count = count} {v = v} w bt e d mid =
    subst (λ u. Midway m text hyphen whole fs rows count u bt) e (subst (λ k. Midway m text hyphen whole fs rows count v k) d mid)

-- all that the fields tell, with all rows free
abbrev pub all_told : {F : Type 0} → Meaning F → List ℕ → ℕ → List (Row F) → List Field → Result Sum Refusal
all_told m text hyphen rows fs = heed (assigned m text hyphen 0 rows fs) (λ ts. Ok (sum_of m text ts))

-- nothing is gathered yet
pub midway_start : {F : Type 0} (m : Meaning F) (text : List ℕ) (hyphen : ℕ) (rows : List (Row F)) (fs : List Field) → length fs ≤ 43 → Midway m text hyphen (all_told m text hyphen rows fs) fs rows 0 untold None
midway_start {F = F} m text hyphen rows fs few =
    record {
      done = 0;
      few = omega arith;
      lines = record { low = omega (arith, ints); high = omega (arith, ints) };
      opening = tt;
      closes = refl;
      is = by (assigned m text hyphen 0 rows fs);
    }
  where
    by : (r : Result (List (Taken F)) Refusal) → heed r (λ ts. Ok (sum_on m text untold None ts)) ≡ heed r (λ ts. Ok (sum_of m text ts))
    by (Ok ts) = ap Ok (sum_start m text ts)
    by (Err x) = refl

closes_more : {X : Type 0} (o : Option ℕ) (c : Option X) (b : Option X) (at : ℕ) → is_some o ≡ is_some c → is_some (option_or o (place_of (is_some b) at)) ≡ is_some (option_or c b)
closes_more None None None at h = refl
closes_more None None (Some x) at h = refl
closes_more None (Some c) b at h = absurd (grind arith)
closes_more (Some o) None b at h = absurd (grind arith)
closes_more (Some o) (Some c) b at h = refl

module _ {F : Type 0} (m : Meaning F) (text : List ℕ) (hyphen : ℕ) (whole : Result Sum Refusal) (f : Field) (fs : List Field) (rows : List (Row F)) (count : ℕ) (v : Told) (at : Option ℕ) (mid : Midway m text hyphen whole (f ∷ fs) rows count v at) where
  -- what one field more tells is small
  pub small_more : KeepsLaws m → (s : Forward F) → Ok s ≡ forward m text f (seek f.tag count rows) → ToldOk s.told
  small_more laws s q = let t = forwarded m text hyphen count rows f s q in subst ToldOk t.tells (laws.values t.format (shown text f).content t.accepted)

  -- one field more is taken
  pub midway_more : KeepsLaws m → (s : Forward F) → Ok s ≡ forward m text f (seek f.tag count rows) → Midway m text hyphen whole fs s.rows s.count (joined v s.told) (option_or at (place_of (is_some s.told.closing) f.at))
  midway_more laws s q =
      let t = forwarded m text hyphen count rows f s q in
      let ok = small_more laws s q in
      let taken : Taken F = record { format = t.format; field = f } in
      record {
        done = mid.done + 1;
        few = omega (arith, mid.few);
        lines = few_more mid.done v.lines s.told.lines mid.lines ok.lines;
        opening = told_first BalanceOk v.opening s.told.opening mid.opening ok.opening;
        closes = closes_more at v.closing s.told.closing f.at mid.closes;
        is =
            on taken t.tells (assigned m text hyphen s.count s.rows fs)
            ∙ ap (λ r. heed r (λ ts. Ok (sum_on m text v at ts))) (sym (t.goes_on fs))
            ∙ mid.is;
      }
    where
      on : (t : Taken F) → told_in m text t ≡ s.told → (r : Result (List (Taken F)) Refusal) → heed r (λ ts. Ok (sum_on m text (joined v s.told) (option_or at (place_of (is_some s.told.closing) t.field.at)) ts)) ≡ heed (with_taken t r) (λ ts. Ok (sum_on m text v at ts))
      on t k (Err x) = refl
      on t k (Ok ts) = ap (λ a. Ok (sum_on m text (joined v a) (option_or at (place_of (is_some a.closing) t.field.at)) ts)) (sym k) ∙ ap Ok (sym (sum_more m text v at t ts))

  -- it is refused
  pub midway_refused : (x : Refusal) → Err x ≡ forward m text f (seek f.tag count rows) → Err x ≡ whole
  midway_refused x q = ap (λ r. heed r (λ ts. Ok (sum_on m text v at ts))) (sym (not_forwarded m text hyphen count rows f x q fs)) ∙ mid.is

module _ {F : Type 0} (m : Meaning F) (text : List ℕ) (hyphen : ℕ) (whole : Result Sum Refusal) (rows : List (Row F)) (count : ℕ) (v : Told) (at : Option ℕ) (mid : Midway m text hyphen whole [] rows count v at) where
  -- no field is left
  pub midway_end : (b : Bool) → b ≡ filled count rows → heed (cond b (Ok []) (refused_at 8 hyphen)) (λ ts. Ok (sum_on m text v at ts)) ≡ whole
  midway_end b is = ap (λ b. heed (cond b (Ok []) (refused_at 8 hyphen)) (λ ts. Ok (sum_on m text v at ts))) is ∙ mid.is

  pub adds_up : AddsUp v
  adds_up = by v.opening mid.opening
    where
      by : (o : Option Balance) → IfTold BalanceOk o → IfSome o (λ o. SFits w64 (o.hundredths +ℤ v.lines))
      by None h = tt
      by (Some o) h = few_fits (mid.done + 1) (o.hundredths +ℤ v.lines) (omega (arith, mid.few)) (few_behind mid.done o.hundredths v.lines h.bounded mid.lines)

  pub sum_all : ◌≡◌ {A = Result Sum Refusal} (Ok (record { values = v; closing_at = unwrap_or at 0 })) (Ok (sum_on m text v at []))
  sum_all = λ i. Ok (record { values = sym (joined_last v) i; closing_at = unwrap_or at 0 })
