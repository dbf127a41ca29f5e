use Rattle.std.proofs.Common.{◌≡◌, ℕ, ◌+◌, ◌-◌, ◌≤◌, List, ◌++◌, length, drop, sym, ap, ◌∙◌, arith, rules}
use Rattle.std.proofs.lemmas.List.{length-append, append_assoc, take_at, drop_at, drop-drop}
use borrow.Rule.Slice.PartMut.{put_mid}
use Rattle.std.proofs.lemmas.Bool.{cond-true, le-leb}
use Rattle.std.proofs.lemmas.Bool.Decides.{nat_tests}
use Rattle.content_lines.proofs.parts.put_parts.Goals as goal

total : (a b c : List ℕ) → length (a ++ (b ++ c)) ≡ length a + (length b + length c)
total a b c = omega (arith, length-append a (b ++ c), length-append b c)

-- a part written behind what was written before
behind : (p q ys : List ℕ) (at k : ℕ) → length p ≡ at → put_mid at k (p ++ q) ys ≡ p ++ (ys ++ drop k q)
behind p q ys at k h = (λ i. take_at p q at h i ++ (ys ++ drop k (drop_at p q at h i)))

three : (a b c d x y z : List ℕ) (middle end : ℕ) → middle ≡ length a + length b → end ≡ middle + length c → x ≡ a → y ≡ b → z ≡ c → put_mid middle (end - middle) (put_mid (length a) (middle - length a) (x ++ drop (length a) d) y) z ≡ (a ++ (b ++ c)) ++ drop (length (a ++ (b ++ c))) d
three a b c d x y z middle end e f p q r =
    let k = middle - length a in
    let m = end - middle in
    let all : length a + k + m ≡ length (a ++ (b ++ c)) = omega (arith, total a b c) in
    let rest = ap (drop m) (drop-drop k (length a) d) ∙ drop-drop m (length a + k) d ∙ ap (λ n. drop n d) all in
    (λ i. put_mid middle m (put_mid (length a) k (p i ++ drop (length a) d) (q i)) (r i))
    ∙ ap (λ l. put_mid middle m l c) (behind a (drop (length a) d) b (length a) k (omega arith) ∙ sym (append_assoc a b (drop k (drop (length a) d))))
    ∙ behind (a ++ b) (drop k (drop (length a) d)) c middle m (omega (arith, length-append a b))
    ∙ ap (λ l. (a ++ b) ++ (c ++ l)) rest
    ∙ simp append_assoc

pub returns : goal.returns
returns c =
    let t = total c.args.first.now c.args.second.now c.args.third.now in
    let m : c.saturating_add-middle.result ≡ length c.args.first.now + length c.args.second.now = search rules in
    let e : c.saturating_add-end.result ≡ c.saturating_add-middle.result + length c.args.third.now = search rules in
    let fit : length (c.args.first.now ++ (c.args.second.now ++ c.args.third.now)) ≤ length c.args.buffer.now = omega arith in
    record {
      answer = grind (arith, nat_tests);
      buffer = three c.args.first.now c.args.second.now c.args.third.now c.args.buffer.now _ _ _ _ _ m e (search rules) (search rules) (search rules) ∙ sym (cond-true _ _ _ (le-leb _ _ fit));
    }
