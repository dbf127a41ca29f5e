-- The laws of balances.
use Rattle.std.proofs.Common.{◌≡◌, ℕ, zero, suc, ◌<◌, true, cond, ◌&&◌, eqb, ◌⊎◌, List, ◌∷◌, length, get_or, take, drop, ℤ, pos, is_some, Some, None, sym, refl, ap, ◌∙◌, inl, inr, ⊎_elim, arith}
use Rattle.std.proofs.lemmas.List.{length-drop, drop_more}
use Rattle.std.proofs.lemmas.Bool.{cases_Bool, eqb-true, eqb-false, eq-eqb, cond-true, cond-false}
use Rattle.mt_text.specs.Classes.{every, printable}
use Rattle.contents.specs.Digits.{and_then}
use Rattle.contents.specs.Amounts.{hundredths}
use Rattle.content_lines.specs.Formats.{balance, Lawful}
use Rattle.content_lines.proofs.Chosen.{after, passed, told_some}
use Rattle.content_lines.proofs.Shapes.{laid_line, tidy_from}
use Rattle.content_money.specs.declared.balances.Balance.{Balance}
use Rattle.content_money.specs.declared.money.Money.{Money}
use Rattle.content_money.specs.declared.signs.Sign.{Sign}
use Rattle.content_money.specs.declared.signs.Sign.TheVariants.{Plus, Minus}
use Rattle.content_money.specs.Money.{is_currency, dated_of}
use Rattle.content_money.specs.Signs.{signed}
use Rattle.content_money.specs.Balances.{mark_of, balance_of, worth, normal_mark, balance_normal, balance_format}
use Rattle.content_money.proofs.Dated.{dated_told, dated_again, front_again, dated_one_normal, dated_one_value, dated_bytes}

-- ---- what was told

pub record Told (cur bs : List ℕ) (b : Balance) : Type 0 where
  pub sign : Sign
  pub amount : Money
  pub mark : mark_of (get_or bs 0 0) ≡ Some sign
  pub dated : dated_of cur (drop 1 bs) ≡ Some amount
  pub counted : signed sign amount.hundredths ≡ b.hundredths

abbrev made : List ℕ → Sign → Money → Balance
made cur sign m = record { date = m.date; currency = cur; hundredths = signed sign m.hundredths }

pub balance_told : (cur bs : List ℕ) (b : Balance) → balance_of cur bs ≡ Some b → Told cur bs b
balance_told cur bs b e =
    let p = after _ _ _ e in
    let q = after _ _ _ p.2 in
    let f = q.2 in
    let same : made cur p.0 q.0 ≡ b = cc in
    record { sign = p.0; amount = q.0; mark = p.1; dated = q.1; counted = ap (λ b. b.hundredths) same }

pub balance_read : (cur bs : List ℕ) (sign : Sign) (m : Money) → mark_of (get_or bs 0 0) ≡ Some sign → dated_of cur (drop 1 bs) ≡ Some m → balance_of cur bs ≡ Some (made cur sign m)
balance_read cur bs sign m e f =
    ap (λ o. and_then o (λ sign. and_then (dated_of cur (drop 1 bs)) (λ m. Some (made cur sign m)))) e
    ∙ ap (λ o. and_then o (λ m. Some (made cur sign m))) f

-- ---- marks and signs

-- at zero the sign makes no difference
signed_zero : (s t : Sign) → signed s 0 ≡ signed t 0
signed_zero Plus Plus = refl
signed_zero Plus Minus = refl
signed_zero Minus Plus = refl
signed_zero Minus Minus = refl

-- what stands behind a sign is zero exactly where the whole is
pub zero_signed : (s : Sign) (h : ℕ) → signed s h ≡ pos 0 → h ≡ 0
zero_signed Plus h e = cc
zero_signed Minus zero e = refl
zero_signed Minus (suc h) e = absurd (let z : ◌≡◌ {A = ℕ} 0 1 = cc in omega arith)

pub signed_at_zero : (s : Sign) (h : ℕ) → h ≡ 0 → signed s h ≡ pos 0
signed_at_zero s h e = ap (signed s) e ∙ signed_zero s Plus

-- each sign's mark
abbrev mark_for : Sign → ℕ
mark_for Plus = 67
mark_for Minus = 68

mark_is : (a : ℕ) (s : Sign) → mark_of a ≡ Some s → a ≡ mark_for s
mark_is a s e =
    ⊎_elim
    (λ p. let q : Some Plus ≡ Some s = sym (cond-true _ _ _ p) ∙ e in let r : Plus ≡ s = cc in eqb-true _ _ p ∙ ap mark_for r)
    (λ p.
    let f : cond (eqb a 68) (Some Minus) None ≡ Some s = sym (cond-false _ _ _ p) ∙ e in
    let g = passed _ _ _ f in
    let q = g.1 in
    let r : Minus ≡ s = cc in
    eqb-true _ _ g.0 ∙ ap mark_for r)
    (cases_Bool (eqb a 67))

-- equal signed amounts: one size, and one sign unless they are zero
same_size : (s t : Sign) (h k : ℕ) → signed s h ≡ signed t k → (h ≡ k) × ((h ≡ 0) ⊎ (s ≡ t))
same_size Plus Plus h k e = (cc, inr refl)
same_size Plus Minus h zero e = (cc, inl cc)
same_size Plus Minus h (suc k) e = absurd (let z : ◌≡◌ {A = ℕ} 0 1 = cc in omega arith)
same_size Minus Plus zero k e = (cc, inl refl)
same_size Minus Plus (suc h) k e = absurd (let z : ◌≡◌ {A = ℕ} 0 1 = cc in omega arith)
same_size Minus Minus zero zero e = (refl, inl refl)
same_size Minus Minus zero (suc k) e = absurd (let z : ◌≡◌ {A = ℕ} 0 1 = cc in omega arith)
same_size Minus Minus (suc h) zero e = absurd (let z : ◌≡◌ {A = ℕ} 0 1 = cc in omega arith)
same_size Minus Minus (suc h) (suc k) e = (cc, inr refl)

same_mark : (a b : ℕ) (s t : Sign) (h k : ℕ) → mark_of a ≡ Some s → mark_of b ≡ Some t → h ≡ k → (h ≡ 0) ⊎ (s ≡ t) → cond (eqb h 0) 67 a ≡ cond (eqb k 0) 67 b
same_mark a b s t h k e f p q =
    ⊎_elim
    (λ z. cond-true _ _ _ (eq-eqb _ _ z) ∙ sym (cond-true _ _ _ (eq-eqb _ _ (sym p ∙ z))))
    (λ z. let ab : a ≡ b = mark_is a s e ∙ ap mark_for z ∙ sym (mark_is b t f) in (λ i. cond (eqb (p i) 0) 67 (ab i)))
    q

-- ---- the normal content

-- the hundredths of an accepted balance
pub size : (cur bs : List ℕ) (b : Balance) (t : Told cur bs b) → hundredths (drop 9 (drop 1 bs)) ≡ t.amount.hundredths
size cur bs b t = (dated_told cur (drop 1 bs) t.amount t.dated).worth

again : (cur bs : List ℕ) (b : Balance) → balance_of cur bs ≡ Some b → balance_of cur (balance_normal bs) ≡ balance_of cur bs
again cur bs b e =
    let t = balance_told cur bs b e in
    let m = t.amount in
    let d : dated_of cur (drop 1 (balance_normal bs)) ≡ Some m = dated_again cur (drop 1 bs) m t.dated ∙ t.dated in
    let own = balance_read cur bs t.sign m t.mark t.dated in
    ⊎_elim
    (λ z.
    let n : m.hundredths ≡ 0 = sym (size cur bs b t) ∙ eqb-true _ _ z in
    let k : mark_of (normal_mark bs) ≡ Some Plus = ap mark_of (cond-true _ _ _ z) in
    let w : signed Plus m.hundredths ≡ signed t.sign m.hundredths = ap (signed Plus) n ∙ signed_zero Plus t.sign ∙ sym (ap (signed t.sign) n) in
    balance_read cur (balance_normal bs) Plus m k d ∙ (λ i. Some (record { date = m.date; currency = cur; hundredths = w i })) ∙ sym own)
    (λ z.
    let k : mark_of (normal_mark bs) ≡ Some t.sign = ap mark_of (cond-false _ _ _ z) ∙ t.mark in
    balance_read cur (balance_normal bs) t.sign m k d ∙ sym own)
    (cases_Bool (eqb (hundredths (drop 9 (drop 1 bs))) 0))

-- ---- the laws

said : (a b : List ℕ) (m n : ℤ) → balance a m ≡ balance b n → (a ≡ b) × (m ≡ n)
said a b m n e = (cc, cc)

printed_mark : (s : Sign) → printable (mark_for s) ≡ true
printed_mark Plus = refl
printed_mark Minus = refl

-- two balances that say the same
record Alike (cur c d : List ℕ) : Type 0 where
  first : Balance
  second : Balance
  one : Told cur c first
  two : Told cur d second
  front : take 9 (drop 1 c) ≡ take 9 (drop 1 d)
  counted : signed one.sign one.amount.hundredths ≡ signed two.sign two.amount.hundredths

alike : (cur c d : List ℕ) → is_some (balance_of cur c) ≡ true → is_some (balance_of cur d) ≡ true → (balance_format cur).says c ≡ (balance_format cur).says d → Alike cur c d
alike cur c d h k e =
    let x = told_some _ h in
    let y = told_some _ k in
    let s = said (take 9 (drop 1 c)) (take 9 (drop 1 d)) (worth (balance_of cur c)) (worth (balance_of cur d)) e in
    let t = balance_told cur c x.0 x.1 in
    let u = balance_told cur d y.0 y.1 in
    record { first = x.0; second = y.0; one = t; two = u; front = s.0; counted = t.counted ∙ sym (ap worth x.1) ∙ s.1 ∙ ap worth y.1 ∙ sym u.counted }

pub balance_lawful : (cur : List ℕ) → is_currency cur ≡ true → Lawful (balance_format cur)
balance_lawful cur k =
    record {
      accepted = λ c h. let t = told_some (balance_of cur c) h in ap is_some (again cur c t.0 t.1) ∙ h;
      same = λ c h.
          let t = told_some (balance_of cur c) h in
          let u = balance_told cur c t.0 t.1 in
          let p = dated_told cur (drop 1 c) u.amount u.dated in
          (λ i. balance (front_again (drop 1 c) p.long i) (worth (again cur c t.0 t.1 i)));
      one_normal = λ c d h j e.
          let a = alike cur c d h j e in
          let z = same_size a.one.sign a.two.sign a.one.amount.hundredths a.two.amount.hundredths a.counted in
          let hc = size cur c a.first a.one in
          let hd = size cur d a.second a.two in
          let w : hundredths (drop 9 (drop 1 c)) ≡ hundredths (drop 9 (drop 1 d)) = hc ∙ z.0 ∙ sym hd in
          let q : (hundredths (drop 9 (drop 1 c)) ≡ 0) ⊎ (a.one.sign ≡ a.two.sign) = ⊎_elim (λ n. inl (hc ∙ n)) (λ n. inr n) z.1 in
          let m = same_mark (get_or c 0 0) (get_or d 0 0) a.one.sign a.two.sign _ _ a.one.mark a.two.mark w q in
          let r = dated_one_normal cur (drop 1 c) (drop 1 d) a.one.amount a.two.amount a.one.dated a.two.dated a.front w in
          (λ i. m i ∷ r i);
      one_value = λ c d h j e.
          let a = alike cur c d h j e in
          let z = same_size a.one.sign a.two.sign a.one.amount.hundredths a.two.amount.hundredths a.counted in
          let w : hundredths (drop 9 (drop 1 c)) ≡ hundredths (drop 9 (drop 1 d)) = size cur c a.first a.one ∙ z.0 ∙ sym (size cur d a.second a.two) in
          let v = sym a.one.dated ∙ dated_one_value cur (drop 1 c) (drop 1 d) a.one.amount a.two.amount a.one.dated a.two.dated a.front w ∙ a.two.dated in
          let m : a.one.amount ≡ a.two.amount = cc in
          balance_read cur c a.one.sign a.one.amount a.one.mark a.one.dated
          ∙ (λ i. Some (record { date = (m i).date; currency = cur; hundredths = a.counted i }))
          ∙ sym (balance_read cur d a.two.sign a.two.amount a.two.mark a.two.dated);
      fits = λ c h.
          let t = told_some (balance_of cur c) h in
          let u = balance_told cur c t.0 t.1 in
          let p = dated_told cur (drop 1 c) u.amount u.dated in
          let b = dated_bytes cur (drop 1 c) u.amount k u.dated in
          let l = length-drop 1 c in
          let n : 0 < length c = omega (arith, p.long) in
          let x : c ≡ get_or c 0 0 ∷ drop 1 c = drop_more c 0 0 n in
          let y : every printable (get_or c 0 0 ∷ drop 1 c) ≡ true = (λ i. (ap printable (mark_is (get_or c 0 0) u.sign u.mark) ∙ printed_mark u.sign) i && b.printed i) in
          tidy_from c n (omega (arith, b.most)) (laid_line c (ap (every printable) x ∙ y));
    }

-- ---- writing

-- the mark that the code writes
pub mark_written : (cur bs : List ℕ) (b : Balance) (t : Told cur bs b) (r : ℕ) → (b.hundredths ≡ pos 0 → r ≡ 67) → ((b.hundredths ≡ pos 0 → ⊥) → r ≡ get_or bs 0 0) → r ≡ normal_mark bs
mark_written cur bs b t r f g =
    let h = hundredths (drop 9 (drop 1 bs)) in
    let s = size cur bs b t in
    ⊎_elim
    (λ z.
    let n : t.amount.hundredths ≡ 0 = sym s ∙ eqb-true _ _ z in
    f (sym t.counted ∙ signed_at_zero t.sign t.amount.hundredths n) ∙ sym (cond-true _ _ _ z))
    (λ z.
    g (λ e. eqb-false _ _ z (s ∙ zero_signed t.sign t.amount.hundredths (t.counted ∙ e))) ∙ sym (cond-false _ _ _ z))
    (cases_Bool (eqb h 0))
