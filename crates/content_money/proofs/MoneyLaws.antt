-- The laws of money.
use Rattle.std.proofs.Common.{◌≡◌, ℕ, true, cond, ltb, List, take, drop, is_some, Some, None, ap, ◌∙◌, arith}
use Rattle.contents.specs.Digits.{and_then}
use Rattle.contents.specs.Amounts.{hundredths}
use Rattle.contents.proofs.NormalAmounts.{normal_worth}
use Rattle.content_lines.specs.Formats.{money, Lawful}
use Rattle.content_lines.proofs.Chosen.{after, told_some}
use Rattle.content_lines.proofs.Shapes.{laid_line, tidy_from}
use Rattle.content_money.specs.declared.money.Money.{Money}
use Rattle.content_money.specs.Money.{is_currency, dated_of, money_of, dated_normal, money_format}
use Rattle.content_money.proofs.Dated.{dated_told, dated_again, front_again, amount_part_again, dated_one_normal, dated_one_value, dated_bytes}

-- accepted money is told
pub money_dated : (cur bs : List ℕ) → is_some (money_of cur bs) ≡ true → (m : Money) × (dated_of cur bs ≡ Some m)
money_dated cur bs h =
    let t = told_some _ h in
    let a = after _ _ _ t.1 in
    (a.0, a.1)

again : (cur bs : List ℕ) → is_some (money_of cur bs) ≡ true → money_of cur (dated_normal bs) ≡ money_of cur bs
again cur bs h =
    let t = money_dated cur bs h in
    ap (λ o. and_then o (λ m. cond (ltb 0 m.hundredths) (Some m) None)) (dated_again cur bs t.0 t.1)

-- what two equal sayings have in common
pub money_parts : (a b : List ℕ) (m n : ℕ) → money a m ≡ money b n → (a ≡ b) × (m ≡ n)
money_parts a b m n e = (cc, cc)

pub money_lawful : (cur : List ℕ) → is_currency cur ≡ true → Lawful (money_format cur)
money_lawful cur k =
    record {
      accepted = λ c h. ap is_some (again cur c h) ∙ h;
      same = λ c h.
          let t = money_dated cur c h in
          let p = dated_told cur c t.0 t.1 in
          (λ i. money (front_again c p.long i) ((ap hundredths (amount_part_again c p.long) ∙ normal_worth (drop 9 c) p.amount) i));
      one_normal = λ c d h j e.
          let t = money_dated cur c h in
          let u = money_dated cur d j in
          let q = money_parts (take 9 c) (take 9 d) (hundredths (drop 9 c)) (hundredths (drop 9 d)) e in
          dated_one_normal cur c d t.0 u.0 t.1 u.1 q.0 q.1;
      one_value = λ c d h j e.
          let t = money_dated cur c h in
          let u = money_dated cur d j in
          let q = money_parts (take 9 c) (take 9 d) (hundredths (drop 9 c)) (hundredths (drop 9 d)) e in
          ap (λ o. and_then o (λ m. cond (ltb 0 m.hundredths) (Some m) None)) (dated_one_value cur c d t.0 u.0 t.1 u.1 q.0 q.1);
      fits = λ c h.
          let t = money_dated cur c h in
          let p = dated_told cur c t.0 t.1 in
          let b = dated_bytes cur c t.0 k t.1 in
          tidy_from c (omega (arith, p.long)) (omega (arith, b.most)) (laid_line c b.printed);
    }
