-- What a change within one account's run leaves of each run.
use Rattle.std.proofs.Common.{◌≡◌, ℕ, ◌+◌, ◌-◌, ◌*◌, ◌<◌, ◌≤◌, min, true, false, ltb, List, length, get_or, take, drop, set, Some, None, Ok, sym, ap, ◌∙◌, inl, inr, arith}
use Rattle.std.proofs.lemmas.Bool.Decides.{nat_tests}
use Rattle.std.proofs.lemmas.Grind.{common_steps}
use mathlib.Core.Path.{fun_ext}
use lib.Seq.{take-set-lt}
use Rattle.std.proofs.lemmas.List.{drop-take, take-take, drop-drop, set-get_or, length-set, length-drop, take-set-le, drop-set-lt, drop-set-add, take_more_set}
use Rattle.std.proofs.lemmas.Bool.{cases_order, cond-true, cond-false, lt-ltb, ltb-true, ltb-false}
use Rattle.books.specs.declared.book.Entry.{Entry}
use Rattle.mt_text.specs.Refusals.{refused}
use Rattle.books.specs.Lists.{at, has, put_answer, put_list, without}
use Rattle.books.specs.Runs.{share_of, size_of, room_of, run}
use Rattle.std.specs.List.{position, copy_within}
use Rattle.books.proofs.Places.{keyed, sought_some, sought_none}
use Rattle.std.proofs.lemmas.List.Edits.{length-paste}
use Rattle.books.proofs.Gaps.{closed, closed_before, closed_after, closed_row, without_at, without_none}

-- each account's run lies within the cells
pub within : (n a : ℕ) → a < 8 → a * share_of n + share_of n ≤ n
within n a lt = grind (arith, common_steps)

-- an earlier account's run ends where a later one begins, or before
pub apart : (s a b : ℕ) → b < a → b * s + s ≤ a * s
apart s a b lt = grind (arith, common_steps)

module _ {X : Type 0} (xs ys : List X) where
  row_before : (from len lim : ℕ) → from + len ≤ lim → take lim ys ≡ take lim xs → take len (drop from ys) ≡ take len (drop from xs)
  row_before from len lim h e =
      let t = drop-take from len ys in
      let u = drop-take from len xs in
      let v = take-take (from + len) lim ys h in
      let w = take-take (from + len) lim xs h in
      cc

  row_after : (from len lim : ℕ) → lim ≤ from → drop lim ys ≡ drop lim xs → take len (drop from ys) ≡ take len (drop from xs)
  row_after from len lim h e =
      let f : lim + (from - lim) ≡ from = omega arith in
      let t = drop-drop (from - lim) lim ys in
      let u = drop-drop (from - lim) lim xs in
      cc

  -- what was written lies within the run of account a, whose list is now es
  module _ (lens : List ℕ) (a m : ℕ) (es : List X) (eight : length lens ≡ 8) (lt : a < 8) (same : length ys ≡ length xs)
      (before : take (a * share_of (length xs)) ys ≡ take (a * share_of (length xs)) xs)
      (after : drop (a * share_of (length xs) + share_of (length xs)) ys ≡ drop (a * share_of (length xs) + share_of (length xs)) xs)
      (own : take (min m (share_of (length xs))) (drop (a * share_of (length xs)) ys) ≡ es) where
    at_own : run ys (set lens a m) a ≡ es
    at_own = grind (arith, common_steps)

    at_other : (b : ℕ) → b < 8 → (b ≡ a → ⊥) → run ys (set lens a m) b ≡ run xs lens b
    at_other b lb ne =
        let s = share_of (length xs) in
        let len = size_of (length xs) lens b in
        let fb : len ≤ s = omega arith in
        let moved : take len (drop (b * s) ys) ≡ take len (drop (b * s) xs) =
        elim (cases_order b a) [
          | inl e ↦ absurd (ne e)
          | inr o ↦ elim o [
            | inl h ↦ let p = apart s a b h in row_before (b * s) len (a * s) (omega arith) before
            | inr h ↦ let p = apart s b a h in row_after (b * s) len (a * s + s) (omega arith) after
          ]
        ] in
        grind (arith, common_steps, nat_tests)

    at_each : (b : ℕ) → run ys (set lens a m) b ≡ at a es (run xs lens) b
    at_each b = grind (arith, common_steps, nat_tests, at_own, at_other)

    pub run_changed : run ys (set lens a m) ≡ at a es (run xs lens)
    run_changed = fun_ext at_each

at_same : {X : Type 0} (a : ℕ) (f : ℕ → X) → f ≡ at a (f a) f
at_same a f = grind (arith, common_steps)

module _ {K R : Type 0} (says : K → List ℕ) (xs : List (Entry K R)) (lens : List ℕ) (a len : ℕ) (k : K) (el : len ≡ size_of (length xs) lens a) (eight : length lens ≡ 8) (lt : a < 8) where
  is_row : run xs lens a ≡ take (len) (drop (a * share_of (length xs)) xs)
  is_row = grind (arith, common_steps)

  row_length : length (run xs lens a) ≡ len
  row_length = grind (arith, common_steps)

  is_room : room_of (length xs) a ≡ share_of (length xs)
  is_room = grind (arith, common_steps)

  -- a put of a key that the account has
  pub put_has : (r : R) (p : ℕ) {i : ℕ} → i ≡ a * share_of (length xs) + p → Some p ≡ position (keyed says k) (run xs lens a)
      → (Ok tt ≡ put_answer says (room_of (length xs) a) (run xs lens a) k)
      × (run (set xs i (record { key = k; «record» = r })) lens ≡ at a (put_list says (room_of (length xs) a) (run xs lens a) k r) (run xs lens))
  put_has r p {i} ei there =
      let v : Entry K R = record { key = k; «record» = r } in
      let s = share_of (length xs) in
      let hit = sought_some says (run xs lens a) k p there in
      let h : p < len = omega (arith, row_length, ltb-true _ _ hit.0) in
      let own : take (min (get_or lens a 0) s) (drop (a * s) (set xs (a * s + p) v)) ≡ put_list says (room_of (length xs) a) (run xs lens a) k r = grind (arith, common_steps, nat_tests, is_row, drop-set-add, take-set-lt) in (
        sym (cond-true _ _ _ hit.0),
        ap (λ j. run (set xs j v) lens) ei ∙ ap (run (set xs (a * s + p) v)) (sym (set-get_or lens a 0))
            ∙ run_changed xs (set xs (a * s + p) v) lens a (get_or lens a 0) _ eight lt (length-set xs (a * s + p) v) (take-set-le (a * s) xs (a * s + p) v (omega arith)) (drop-set-lt (a * s + s) xs (a * s + p) v (omega arith)) own,
      )

  -- a put of a new key, where there is room
  pub put_new : (r : R) {i : ℕ} → i ≡ a * share_of (length xs) + len → None ≡ position (keyed says k) (run xs lens a) → len < share_of (length xs)
      → (Ok tt ≡ put_answer says (room_of (length xs) a) (run xs lens a) k)
      × (run (set xs i (record { key = k; «record» = r })) (set lens a (len + 1)) ≡ at a (put_list says (room_of (length xs) a) (run xs lens a) k r) (run xs lens))
  put_new r {i} ei none room =
      let v : Entry K R = record { key = k; «record» = r } in
      let s = share_of (length xs) in
      let w = within (length xs) a lt in
      let l = row_length in
      let ir = is_room in
      let lacks = sought_none says (run xs lens a) k none in
      let fits : ltb (length (run xs lens a)) (room_of (length xs) a) ≡ true = lt-ltb _ _ (omega arith) in
      let deep : len < length (drop (a * s) xs) = simp length-drop (omega arith) in
      let low : min (len + 1) s ≡ len + 1 = omega arith in
      let own : take (min (len + 1) s) (drop (a * s) (set xs (a * s + len) v)) ≡ put_list says (room_of (length xs) a) (run xs lens a) k r = grind (arith, common_steps, nat_tests, is_row, drop-set-add, take_more_set) in (
        sym (cond-false _ _ _ lacks ∙ cond-true _ _ _ fits),
        ap (λ j. run (set xs j v) (set lens a (len + 1))) ei
            ∙ run_changed xs (set xs (a * s + len) v) lens a (len + 1) _ eight lt (length-set xs (a * s + len) v) (take-set-le (a * s) xs (a * s + len) v (omega arith)) (drop-set-lt (a * s + s) xs (a * s + len) v (omega arith)) own,
      )

  -- a put of a new key, where there is none
  pub put_full : (r : R) → None ≡ position (keyed says k) (run xs lens a) → share_of (length xs) ≤ len
      → (refused 17 ≡ put_answer says (room_of (length xs) a) (run xs lens a) k)
      × (run xs lens ≡ at a (put_list says (room_of (length xs) a) (run xs lens a) k r) (run xs lens))
  put_full r none full =
      let l = row_length in
      let ir = is_room in
      let lacks = sought_none says (run xs lens a) k none in
      let kept : put_list says (room_of (length xs) a) (run xs lens a) k r ≡ run xs lens a = grind (arith, common_steps, nat_tests) in
      (grind (arith, common_steps, nat_tests), at_same a (run xs lens) ∙ ap (λ es. at a es (run xs lens)) (sym kept))

  -- a removal of a key that the account has
  pub remove_has : (p from : ℕ) {ys : List (Entry K R)} → ys ≡ copy_within xs (from + p + 1) (from + len) (from + p) → from ≡ a * share_of (length xs) → Some p ≡ position (keyed says k) (run xs lens a)
      → (true ≡ has says (run xs lens a) k)
      × (run ys (set lens a (len - 1)) ≡ at a (without says (run xs lens a) k) (run xs lens))
  remove_has p from moved ef there =
      let s = share_of (length xs) in
      let n = from + len - (from + p + 1) in
      let w = within (length xs) a lt in
      let l = row_length in
      let hit = sought_some says (run xs lens a) k p there in
      let h : p < len = omega (arith, ltb-true _ _ hit.0) in
      let low : min (len - 1) s ≡ len - 1 = omega arith in
      let own : take (min (len - 1) s) (drop (a * s) (closed xs (a * s + p) n)) ≡ without says (run xs lens a) k = grind (arith, common_steps, nat_tests, is_row, closed_row, without_at) in
      let long : length (closed xs (a * s + p) n) ≡ length xs = length-paste xs (a * s + p) (drop (a * s + p + 1) xs) n (omega arith) (simp length-drop (omega arith)) in (
        sym hit.0,
        ap (λ l. run l (set lens a (len - 1))) moved
            ∙ ap (λ f. run (closed xs (f + p) n) (set lens a (len - 1))) ef
            ∙ run_changed xs (closed xs (a * s + p) n) lens a (len - 1) _ eight lt long (closed_before xs (a * s + p) (a * s) n (omega arith) (omega arith)) (closed_after xs (a * s + p) (a * s + s) n (omega arith) (omega arith)) own,
      )

  pub remove_lacks : None ≡ position (keyed says k) (run xs lens a)
      → (false ≡ has says (run xs lens a) k)
      × (run xs lens ≡ at a (without says (run xs lens a) k) (run xs lens))
  remove_lacks none =
      let lacks = sought_none says (run xs lens a) k none in
      (sym lacks, at_same a (run xs lens) ∙ ap (λ es. at a es (run xs lens)) (sym (without_none says (run xs lens a) k (ltb-false _ _ lacks))))
