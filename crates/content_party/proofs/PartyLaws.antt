-- The laws of parties.
use Rattle.std.proofs.Common.{◌≡◌, ℕ, ◌+◌, ◌-◌, ◌≤◌, true, false, cond, not, ◌&&◌, ◌||◌, eqb, ◌⊎◌, List, [], ◌∷◌, ◌++◌, length, get_or, take, drop, is_some, Some, None, codes, Option, sym, refl, ap, ◌∙◌, subst, inl, inr, ⊎_elim, arith}
use Rattle.std.proofs.lemmas.List.{append-nil, append_assoc, take-append-drop, take-append-le, drop-append-le, take-take, length-append, length-drop, length-take-le, get_or_append_left, drop_more}
use Rattle.std.proofs.lemmas.Bool.{cases_Bool, and_parts, and_from, or_cases, eqb-true, eq-eqb, ne_eqb, cond-true, cond-false}
use Rattle.std.proofs.lemmas.Bool.Decides.{nat_tests}
use Rattle.mt_text.specs.Classes.{among, capital, alphanumeric, every, printable}
use Rattle.contents.specs.Digits.{and_then, place}
use Rattle.content_lines.specs.Formats.{party, begins, tidy, Lawful}
use Rattle.content_lines.specs.Lines.{is_line, line_end, first_line, next_line, goes_on}
use Rattle.content_lines.proofs.Chosen.{after, passed, told_some}
use Rattle.content_lines.proofs.Places.{place_within, place_in, place_past, goes_on_parts, next_some}
use Rattle.content_lines.proofs.Shapes.{every_append, capitals_printable, alphanumerics_printable, laid_line, laid_on, tidy_from, is_line_parts}
use Rattle.content_party.specs.declared.parties.Places.{Places}
use Rattle.content_party.specs.declared.parties.Places.TheVariants.{EightOrEleven, ElevenOnly}
use Rattle.content_party.specs.declared.parties.Party.{Party}
use Rattle.content_party.specs.declared.parties.Part.{Part}
use Rattle.content_party.specs.Parties.{parts_in, parts_of, places_fit, is_code, account_at, account_in, Parts, code, account_and_code, one_line, party_of, account_of, code_at, head_part, code_part, filling, party_format}

-- ---- bank codes

record Codes (c : List ℕ) : Type 0 where
  long : (length c ≡ 8) ⊎ (length c ≡ 11)
  front : every capital (take 6 c) ≡ true
  back : every alphanumeric (drop 6 c) ≡ true

code_parts : (places : Places) (c : List ℕ) → is_code places c ≡ true → (places_fit places (length c) ≡ true) × Codes c
code_parts places c h =
    let p = and_parts _ _ h in
    let q = and_parts _ _ p.1 in
    (p.0, record { long = by places p.0; front = q.0; back = q.1 })
  where
    by : (places : Places) → places_fit places (length c) ≡ true → (length c ≡ 8) ⊎ (length c ≡ 11)
    by EightOrEleven k = ⊎_elim (λ e. inl (eqb-true _ _ e)) (λ e. inr (eqb-true _ _ e)) (or_cases _ _ k)
    by ElevenOnly k = inr (eqb-true _ _ k)

fit_eleven : (places : Places) (n : ℕ) → n ≡ 11 → places_fit places n ≡ true
fit_eleven EightOrEleven n e = ap (λ n. eqb n 8 || eqb n 11) e
fit_eleven ElevenOnly n e = ap (λ n. eqb n 11) e

code_long : (c : List ℕ) → Codes c → (8 ≤ length c) × (length c ≤ 11)
code_long c k = ⊎_elim (λ e. (omega arith, omega arith)) (λ e. (omega arith, omega arith)) k.long

code_printable : (c : List ℕ) → Codes c → every printable c ≡ true
code_printable c k =
    ap (every printable) (sym (take-append-drop 6 c))
    ∙ every_append printable (take 6 c) (drop 6 c) (capitals_printable (take 6 c) k.front) (alphanumerics_printable (drop 6 c) k.back)

-- a code with what it lacks
record Filled (places : Places) (c : List ℕ) : Type 0 where
  whole : is_code places (c ++ filling c) ≡ true
  none : filling (c ++ filling c) ≡ []
  no_end : place 13 (filling c) ≡ length (filling c)

filled : (places : Places) (c : List ℕ) → is_code places c ≡ true → Filled places c
filled places c h =
    let p = code_parts places c h in
    let k = p.1 in
    ⊎_elim
    (λ e.
    let f : filling c ≡ codes "XXX" = cond-true (eqb (length c) 8) (codes "XXX") [] (eq-eqb _ _ e) in
    let n : length (c ++ codes "XXX") ≡ 11 = omega (arith, length-append c (codes "XXX")) in
    let t : take 6 (c ++ codes "XXX") ≡ take 6 c = take-append-le 6 c (codes "XXX") (omega arith) in
    let d : drop 6 (c ++ codes "XXX") ≡ drop 6 c ++ codes "XXX" = drop-append-le 6 c (codes "XXX") (omega arith) in
    let w : is_code places (c ++ codes "XXX") ≡ true =
    and_from _ _ (fit_eleven places (length (c ++ codes "XXX")) n)
    (and_from _ _ (ap (every capital) t ∙ k.front) (ap (every alphanumeric) d ∙ every_append alphanumeric (drop 6 c) (codes "XXX") k.back refl)) in
    record {
      whole = ap (λ l. is_code places (c ++ l)) f ∙ w;
      none = ap (λ l. filling (c ++ l)) f ∙ cond-false (eqb (length (c ++ codes "XXX")) 8) (codes "XXX") [] (ap (λ n. eqb n 8) n);
      no_end = ap (λ l. place 13 l) f ∙ sym (ap length f);
    })
    (λ e.
    let f : filling c ≡ [] = cond-false (eqb (length c) 8) (codes "XXX") [] (ap (λ n. eqb n 8) e) in
    let z : c ++ filling c ≡ c = ap (λ l. c ++ l) f ∙ append-nil c in
    record { whole = ap (is_code places) z ∙ h; none = ap filling z ∙ f; no_end = ap (λ l. place 13 l) f ∙ sym (ap length f) })
    k.long

-- ---- what an accepted content is

record Two (places : Places) (bs : List ℕ) : Type 0 where
  more : one_line bs ≡ false
  on : goes_on bs ≡ true
  last : is_code places (next_line bs) ≡ true
  account : List ℕ
  is : account_in (first_line bs) ≡ Some account

abbrev One : Places → List ℕ → Type 0
One places bs = (one_line bs ≡ true) × (is_code places bs ≡ true)

abbrev second : Places → List ℕ → List ℕ → Option Parts
second places bs c = cond (is_code places c) (and_then (account_in (first_line bs)) (λ a. Some (account_and_code a (account_at (first_line bs)) c (line_end bs + 2)))) None

accepted_is : (places : Places) (bs : List ℕ) → is_some (party_of places bs) ≡ true → One places bs ⊎ Two places bs
accepted_is places bs h =
    ⊎_elim
    (λ o.
    let t = told_some _ (ap is_some (sym (cond-true _ _ _ o)) ∙ h) in
    inl (o, (passed _ _ _ t.1).0))
    (λ o.
    let t = told_some _ (ap is_some (sym (cond-false _ _ _ o)) ∙ h) in
    let n = after _ _ _ t.1 in
    let g = next_some bs n.0 (sym n.1) in
    let k = passed _ _ _ n.2 in
    let a = after _ _ _ k.1 in
    inr (record { more = o; on = g.0; last = ap (is_code places) (sym g.1) ∙ k.0; account = a.0; is = a.1 }))
    (cases_Bool (one_line bs))

one_told : (places : Places) (bs : List ℕ) → One places bs → party_of places bs ≡ Some (code bs 0)
one_told places bs p = cond-true _ _ _ p.0 ∙ cond-true _ _ _ p.1

two_told : (places : Places) (bs : List ℕ) (t : Two places bs) → party_of places bs ≡ Some (account_and_code t.account (account_at (first_line bs)) (next_line bs) (line_end bs + 2))
two_told places bs t =
    cond-false _ _ _ t.more
    ∙ ap (λ o. and_then o (second places bs)) (cond-true _ _ _ t.on)
    ∙ cond-true _ _ _ t.last
    ∙ ap (λ o. and_then o (λ a. Some (account_and_code a (account_at (first_line bs)) (next_line bs) (line_end bs + 2)))) t.is

-- its code is a code
code_is : (places : Places) (bs : List ℕ) → One places bs ⊎ Two places bs → (is_code places (code_part bs) ≡ true) × (code_at bs ≤ length bs)
code_is places bs w =
    ⊎_elim
    (λ p. let z : code_at bs ≡ 0 = cond-true _ _ _ p.0 in (ap (λ n. is_code places (drop n bs)) z ∙ p.1, omega arith))
    (λ t. let z : code_at bs ≡ line_end bs + 2 = cond-false _ _ _ t.more in (ap (λ n. is_code places (drop n bs)) z ∙ t.last, omega (arith, (goes_on_parts bs t.on).before)))
    w

-- ---- the normal content

module _ (places : Places) (bs : List ℕ) where
  one_again : One places bs → One places (bs ++ filling (code_part bs))
  one_again p =
      let z : code_part bs ≡ bs = ap (λ n. drop n bs) (cond-true (one_line bs) 0 (line_end bs + 2) p.0) in
      let f = filled places bs p.1 in
      let e : line_end (bs ++ filling bs) ≡ length (bs ++ filling bs) = place_past 13 bs (filling bs) (eqb-true _ _ p.0) ∙ ap (λ n. length bs + n) f.no_end ∙ sym (length-append bs (filling bs)) in
      let P : List ℕ → Type 0 = λ c. One places (bs ++ filling c) in
      subst P (sym z) (eq-eqb _ _ e, f.whole)

  -- the two lines, with something more behind them
  two_more : (f : List ℕ) → Two places bs → is_code places (next_line bs ++ f) ≡ true → Two places (bs ++ f)
  two_more f t k =
      let g = goes_on_parts bs t.on in
      let e : line_end (bs ++ f) ≡ line_end bs = place_in 13 bs f (omega (arith, g.before)) in
      let l : first_line (bs ++ f) ≡ first_line bs = ap (λ n. take n (bs ++ f)) e ∙ take-append-le (line_end bs) bs f (omega (arith, g.before)) in
      let n : next_line (bs ++ f) ≡ next_line bs ++ f = ap (λ n. drop (n + 2) (bs ++ f)) e ∙ drop-append-le (line_end bs + 2) bs f g.before in
      let c = code_long (next_line bs) (code_parts places (next_line bs) t.last).1 in
      let b : begins (next_line (bs ++ f)) ≡ begins (next_line bs) = ap begins n ∙ ap (among (codes ":-")) (get_or_append_left (next_line bs) f 0 0 (omega (arith, c.0))) in
      let h : get_or (bs ++ f) (line_end (bs ++ f) + 1) 0 ≡ get_or bs (line_end bs + 1) 0 = ap (λ n. get_or (bs ++ f) (n + 1) 0) e ∙ get_or_append_left bs f 0 (line_end bs + 1) (omega (arith, g.before)) in
      let m : length (bs ++ f) ≡ length bs + length f = length-append bs f in
      record {
        more = ne_eqb (line_end (bs ++ f)) (length (bs ++ f)) (λ x. omega (arith, g.before));
        on = (λ i. eqb (h i) 10 && not (b i)) ∙ t.on;
        last = ap (is_code places) n ∙ k;
        account = t.account;
        is = ap account_in l ∙ t.is;
      }

  two_again : Two places bs → Two places (bs ++ filling (code_part bs))
  two_again t =
      let z : code_part bs ≡ next_line bs = ap (λ n. drop n bs) (cond-false _ _ _ t.more) in
      let P : List ℕ → Type 0 = λ c. Two places (bs ++ filling c) in
      subst P (sym z) (two_more (filling (next_line bs)) t (filled places (next_line bs) t.last).whole)

  -- it begins its code at the same place
  same_start : One places bs ⊎ Two places bs → code_at (bs ++ filling (code_part bs)) ≡ code_at bs
  same_start w =
      ⊎_elim
      (λ p. cond-true (one_line (bs ++ filling (code_part bs))) _ _ (one_again p).0 ∙ sym (cond-true (one_line bs) _ _ p.0))
      (λ t.
      let g = goes_on_parts bs t.on in
      cond-false (one_line (bs ++ filling (code_part bs))) _ _ (two_again t).more
      ∙ ap (λ n. n + 2) (place_in 13 bs (filling (code_part bs)) (omega (arith, g.before)))
      ∙ sym (cond-false (one_line bs) _ _ t.more))
      w

  same_said : One places bs ⊎ Two places bs → (party_format places).says (bs ++ filling (code_part bs)) ≡ (party_format places).says bs
  same_said w =
      let f = filling (code_part bs) in
      let s = same_start w in
      let k = code_is places bs w in
      let a : head_part (bs ++ f) ≡ head_part bs = ap (λ n. take n (bs ++ f)) s ∙ take-append-le (code_at bs) bs f k.1 in
      let b : code_part (bs ++ f) ≡ code_part bs ++ f = ap (λ n. drop n (bs ++ f)) s ∙ drop-append-le (code_at bs) bs f k.1 in
      let c : code_part (bs ++ f) ++ filling (code_part (bs ++ f)) ≡ code_part bs ++ f =
      (λ i. b i ++ filling (b i)) ∙ ap (λ l. (code_part bs ++ f) ++ l) (filled places (code_part bs) k.0).none ∙ append-nil (code_part bs ++ f) in
      (λ i. party (a i) (c i))

-- the normal content, and the account told, by what is said
normal_by : (bs : List ℕ) → bs ++ filling (code_part bs) ≡ head_part bs ++ (code_part bs ++ filling (code_part bs))
normal_by bs = ap (λ l. l ++ filling (code_part bs)) (sym (take-append-drop (code_at bs) bs)) ∙ append_assoc (head_part bs) (code_part bs) (filling (code_part bs))

value_by : (places : Places) (bs : List ℕ) → One places bs ⊎ Two places bs → (party_format places).value bs ≡ account_in (take (length (head_part bs) - 2) (head_part bs))
value_by places bs w =
    ⊎_elim
    (λ p.
    let z : head_part bs ≡ [] = ap (λ n. take n bs) (cond-true (one_line bs) 0 (line_end bs + 2) p.0) in
    ap account_of (one_told places bs p) ∙ sym (ap (λ h. account_in (take (length h - 2) h)) z))
    (λ t.
    let g = goes_on_parts bs t.on in
    let z : head_part bs ≡ take (line_end bs + 2) bs = ap (λ n. take n bs) (cond-false (one_line bs) 0 (line_end bs + 2) t.more) in
    let l : length (take (line_end bs + 2) bs) - 2 ≡ line_end bs = omega (arith, length-take-le (line_end bs + 2) bs g.before) in
    ap account_of (two_told places bs t)
    ∙ sym (ap (λ h. account_in (take (length h - 2) h)) z ∙ ap (λ n. account_in (take n (take (line_end bs + 2) bs))) l ∙ ap account_in (take-take (line_end bs) (line_end bs + 2) bs (omega arith)) ∙ t.is))
    w

said : (a b c d : List ℕ) → party a c ≡ party b d → (a ≡ b) × (c ≡ d)
said a b c d e = (cc, cc)

-- ---- its bytes

record Line (l : List ℕ) : Type 0 where
  printed : every printable l ≡ true
  most : length l ≤ 37

account_line : (l a : List ℕ) → account_in l ≡ Some a → Line l
account_line l a h =
    let p = passed (eqb (get_or l 0 0) 47 && is_line 34 (drop (account_at l) l)) (Some (drop (account_at l) l)) a h in
    let q = and_parts (eqb (get_or l 0 0) 47) (is_line 34 (drop (account_at l) l)) p.0 in
    let s = eqb-true (get_or l 0 0) 47 q.0 in
    ⊎_elim
    (λ e.
    let z : account_at l ≡ 3 = cond-true (capital (get_or l 1 0) && eqb (get_or l 2 0) 47) 3 1 e in
    let r = is_line_parts 34 (drop 3 l) (ap (λ n. is_line 34 (drop n l)) (sym z) ∙ q.1) in
    let n = length-drop 3 l in
    let x = and_parts (capital (get_or l 1 0)) (eqb (get_or l 2 0) 47) e in
    let x0 = x.0 in
    let c : printable (get_or l 1 0) ≡ true = grind (arith, nat_tests) in
    let y = eqb-true (get_or l 2 0) 47 x.1 in
    let t : l ≡ get_or l 0 0 ∷ get_or l 1 0 ∷ get_or l 2 0 ∷ drop 3 l =
    drop_more l 0 0 (omega (arith, r.some)) ∙ ap (λ t. get_or l 0 0 ∷ t) (drop_more l 1 0 (omega (arith, r.some)) ∙ ap (λ t. get_or l 1 0 ∷ t) (drop_more l 2 0 (omega (arith, r.some)))) in
    record {
      printed = ap (every printable) t ∙ (λ i. ap printable s i && (c i && (ap printable y i && r.printed i)));
      most = omega (arith, r.most);
    })
    (λ e.
    let z : account_at l ≡ 1 = cond-false (capital (get_or l 1 0) && eqb (get_or l 2 0) 47) 3 1 e in
    let r = is_line_parts 34 (drop 1 l) (ap (λ n. is_line 34 (drop n l)) (sym z) ∙ q.1) in
    let n = length-drop 1 l in
    let t : l ≡ get_or l 0 0 ∷ drop 1 l = drop_more l 0 0 (omega (arith, r.some)) in
    record { printed = ap (every printable) t ∙ (λ i. ap printable s i && r.printed i); most = omega (arith, r.most) })
    (cases_Bool (capital (get_or l 1 0) && eqb (get_or l 2 0) 47))

party_tidy : (places : Places) (bs : List ℕ) → is_some (party_of places bs) ≡ true → tidy bs ≡ true
party_tidy places bs h =
    ⊎_elim
    (λ p.
    let k = (code_parts places bs p.1).1 in
    let l = code_long bs k in
    tidy_from bs (omega (arith, l.0)) (omega (arith, l.1)) (laid_line bs (code_printable bs k)))
    (λ t.
    let k = (code_parts places (next_line bs) t.last).1 in
    let l = code_long (next_line bs) k in
    let a = account_line (first_line bs) t.account t.is in
    let g = goes_on_parts bs t.on in
    let m = length-take-le (line_end bs) bs (place_within 13 bs) in
    let n = length-drop (line_end bs + 2) bs in
    tidy_from bs (omega (arith, g.before)) (omega (arith, l.1, a.most, g.before)) (laid_on bs a.printed t.on (laid_line (next_line bs) (code_printable (next_line bs) k))))
    (accepted_is places bs h)

pub party_lawful : (places : Places) → Lawful (party_format places)
party_lawful places =
    record {
      accepted = λ c h.
          ⊎_elim (λ p. ap is_some (one_told places (c ++ filling (code_part c)) (one_again places c p))) (λ t. ap is_some (two_told places (c ++ filling (code_part c)) (two_again places c t))) (accepted_is places c h);
      same = λ c h. same_said places c (accepted_is places c h);
      one_normal = λ c d h k e.
          let s = said (head_part c) (head_part d) (code_part c ++ filling (code_part c)) (code_part d ++ filling (code_part d)) e in
          normal_by c ∙ (λ i. s.0 i ++ s.1 i) ∙ sym (normal_by d);
      one_value = λ c d h k e.
          let s = said (head_part c) (head_part d) (code_part c ++ filling (code_part c)) (code_part d ++ filling (code_part d)) e in
          value_by places c (accepted_is places c h) ∙ ap (λ h. account_in (take (length h - 2) h)) s.0 ∙ sym (value_by places d (accepted_is places d k));
      fits = party_tidy places;
    }

-- ---- reading and writing

abbrev code_in : Parts → List ℕ
code_in (code c at) = c
code_in (account_and_code a a_at c c_at) = c

-- the code that is handed out is the part behind the head
pub code_handed : (places : Places) (bs : List ℕ) (p : Party) → parts_of (Some p) ≡ party_of places bs → (is_some (party_of places bs) ≡ true) × (p.code.bytes.now ≡ code_part bs)
code_handed places bs p e =
    let h : is_some (party_of places bs) ≡ true = ap is_some (sym e) ∙ some_parts p in (
      h,
      ⊎_elim
          (λ o.
          let z : code_part bs ≡ bs = ap (λ n. drop n bs) (cond-true _ _ _ o.0) in
          by p (code bs 0) (e ∙ one_told places bs o) ∙ sym z)
          (λ t.
          let z : code_part bs ≡ next_line bs = ap (λ n. drop n bs) (cond-false _ _ _ t.more) in
          by p (account_and_code t.account (account_at (first_line bs)) (next_line bs) (line_end bs + 2)) (e ∙ two_told places bs t) ∙ sym z)
          (accepted_is places bs h),
    )
  where
    some_parts : (p : Party) → is_some (parts_of (Some p)) ≡ true
    some_parts p = refl

    code_told : (a : Option Part) (c : Part) → c.bytes.now ≡ code_in (parts_in a c)
    code_told None c = refl
    code_told (Some a) c = refl

    by : (p : Party) (q : Parts) → parts_of (Some p) ≡ Some q → p.code.bytes.now ≡ code_in q
    by p q e = let f : parts_in p.account p.code ≡ q = cc in code_told p.account p.code ∙ ap code_in f
