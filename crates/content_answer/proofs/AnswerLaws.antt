-- The laws of answers and related messages.
use Rattle.std.proofs.Common.{◌≡◌, ℕ, ◌+◌, ◌≤◌, true, cond, ◌&&◌, eqb, List, ◌∷◌, ◌++◌, length, get_or, take, drop, is_some, Some, None, codes, Option, sym, refl, ap, ◌∙◌, ⊎_elim, arith}
use Rattle.std.specs.Str.{bytes_eq}
use Rattle.std.proofs.lemmas.Slice.Eq.{bytes_eq-Decides}
use Rattle.std.proofs.lemmas.List.{drop-drop, take-append-drop, take_all, length-drop, length-take-le, drop_more, nil_from_length}
use Rattle.std.proofs.lemmas.Bool.{cases_Bool, and_parts, and_from, or_cases, eqb-true, cond-false}
use Rattle.std.proofs.lemmas.Bool.Decides.{nat_tests}
use Rattle.mt_text.specs.Classes.{among, every, printable}
use Rattle.contents.specs.Digits.{and_then}
use Rattle.contents.specs.Dates.{date_of}
use Rattle.contents.specs.Times.{time_of}
use Rattle.content_lines.specs.Formats.{laid, tidy, Lawful}
use Rattle.content_lines.specs.Lines.{line_end, first_line, next_line, next_of, goes_on}
use Rattle.content_lines.proofs.Chosen.{after, passed, told_some, Digits, date_digits, time_digits}
use Rattle.content_lines.proofs.Places.{place_within, goes_on_parts, next_some}
use Rattle.content_lines.proofs.Shapes.{every_append, digits_printable, laid_line, laid_on, tidy_from}
use Rattle.content_lines.proofs.Laws.{stands}
use Rattle.content_answer.specs.declared.answers.AnswerCode.{AnswerCode}
use Rattle.content_answer.specs.declared.answers.AnswerCode.TheVariants.{Rejt, Canc, Exec, Setl, Errc, Errp, Wait, Susp, Inac}
use Rattle.content_answer.specs.Answers.{last_codes, code_of, is_stamp, is_tail, is_stat, coded, answer_of, answer_format}
use Rattle.content_answer.specs.Related.{digits, is_day, is_related, related_format}

-- bytes of x, and how many
record Plain (bs : List ℕ) (most : ℕ) : Type 0 where
  printed : every printable bs ≡ true
  few : length bs ≤ most

-- ---- stamps

dated : (bs : List ℕ) → is_some (date_of bs) ≡ true → Digits 6 bs
dated bs h = let t = told_some _ h in date_digits _ _ t.1

timed : (bs : List ℕ) → is_some (time_of bs) ≡ true → Digits 4 bs
timed bs h = let t = told_some _ h in time_digits _ _ t.1

stamp_plain : (s : List ℕ) → is_stamp s ≡ true → Plain s 15
stamp_plain s h =
    let p = and_parts (eqb (length s) 15) (is_some (date_of (take 6 s)) && (is_some (time_of (take 4 (drop 6 s))) && (among (codes "+-") (get_or s 10 0) && is_some (time_of (drop 11 s))))) h in
    let q = and_parts (is_some (date_of (take 6 s))) (is_some (time_of (take 4 (drop 6 s))) && (among (codes "+-") (get_or s 10 0) && is_some (time_of (drop 11 s)))) p.1 in
    let r = and_parts (is_some (time_of (take 4 (drop 6 s)))) (among (codes "+-") (get_or s 10 0) && is_some (time_of (drop 11 s))) q.1 in
    let t = and_parts (among (codes "+-") (get_or s 10 0)) (is_some (time_of (drop 11 s))) r.1 in
    let n = eqb-true (length s) 15 p.0 in
    let t0 = t.0 in
    let sign : printable (get_or s 10 0) ≡ true = grind (arith, nat_tests) in
    let split : take 6 s ++ (take 4 (drop 6 s) ++ (get_or s 10 0 ∷ drop 11 s)) ≡ s =
    ap (λ l. take 6 s ++ (take 4 (drop 6 s) ++ l)) (sym (drop_more s 10 0 (omega arith)) ∙ sym (drop-drop 4 6 s))
    ∙ ap (λ l. take 6 s ++ l) (take-append-drop 4 (drop 6 s))
    ∙ take-append-drop 6 s in
    record {
      printed =
          ap (every printable) (sym split)
          ∙ every_append printable (take 6 s) (take 4 (drop 6 s) ++ (get_or s 10 0 ∷ drop 11 s)) (digits_printable (take 6 s) (dated (take 6 s) q.0).digits)
          (every_append printable (take 4 (drop 6 s)) (get_or s 10 0 ∷ drop 11 s) (digits_printable (take 4 (drop 6 s)) (timed (take 4 (drop 6 s)) r.0).digits)
          (and_from (printable (get_or s 10 0)) (every printable (drop 11 s)) sign (digits_printable (drop 11 s) (timed (drop 11 s) t.1).digits)));
      few = omega arith;
    }

tail_plain : (t : List ℕ) → is_tail t ≡ true → Plain t 16
tail_plain t h =
    ⊎_elim
    (λ e. let n = nil_from_length t (eqb-true _ _ e) in record { printed = ap (every printable) n; few = omega (arith, ap length n) })
    (λ e.
    let p = and_parts (eqb (get_or t 0 0) 47) (is_stamp (drop 1 t)) e in
    let b = eqb-true _ _ p.0 in
    let s = stamp_plain (drop 1 t) p.1 in
    let q = and_parts (eqb (length (drop 1 t)) 15) _ p.1 in
    let m = eqb-true (length (drop 1 t)) 15 q.0 in
    let d = length-drop 1 t in
    let x : t ≡ get_or t 0 0 ∷ drop 1 t = drop_more t 0 0 (omega arith) in
    record { printed = ap (every printable) x ∙ (λ i. ap printable b i && s.printed i); few = omega arith })
    (or_cases (eqb (length t) 0) (eqb (get_or t 0 0) 47 && is_stamp (drop 1 t)) h)

-- a word of four letters with its tail
worded : (line : List ℕ) → every printable (take 4 line) ≡ true → is_tail (drop 4 line) ≡ true → Plain line 20
worded line h k =
    let t = tail_plain (drop 4 line) k in
    let d = length-drop 4 line in
    record {
      printed = ap (every printable) (sym (take-append-drop 4 line)) ∙ every_append printable (take 4 line) (drop 4 line) h t.printed;
      few = omega (arith, t.few);
    }

-- ---- answers

-- a listed word is printable
listed : {X : Type 0} (word w : List ℕ) (x : X) (rest : Option X) (y : X) → every printable w ≡ true → (rest ≡ Some y → every printable word ≡ true) → cond (bytes_eq word w) (Some x) rest ≡ Some y → every printable word ≡ true
listed word w x rest y p f h =
    ⊎_elim
    (λ e. ap (every printable) ((bytes_eq-Decides word w).0 e) ∙ p)
    (λ e. f (sym (cond-false _ _ _ e) ∙ h))
    (cases_Bool (bytes_eq word w))

never : {X : Type 0} (word : List ℕ) (y : X) → None ≡ Some y → every printable word ≡ true
never word y h = absurd (grind arith)

last_printable : (word : List ℕ) (y : AnswerCode) → last_codes word ≡ Some y → every printable word ≡ true
last_printable word y =
    listed word (codes "ERRC") Errc _ y refl
    (listed word (codes "ERRP") Errp _ y refl
    (listed word (codes "WAIT") Wait _ y refl
    (listed word (codes "SUSP") Susp _ y refl
    (listed word (codes "INAC") Inac None y refl (never word y)))))

code_printable : (word : List ℕ) (y : AnswerCode) → code_of word ≡ Some y → every printable word ≡ true
code_printable word y =
    listed word (codes "REJT") Rejt _ y refl
    (listed word (codes "CANC") Canc _ y refl
    (listed word (codes "EXEC") Exec _ y refl
    (listed word (codes "SETL") Setl (last_codes word) y refl (last_printable word y))))

answer_tidy : (bs : List ℕ) → is_some (answer_of bs) ≡ true → tidy bs ≡ true
answer_tidy bs h =
    let t = told_some (answer_of bs) h in
    let p = passed (is_stat (first_line bs)) (and_then (next_of bs) coded) t.0 t.1 in
    let q = and_parts (bytes_eq (take 4 (first_line bs)) (codes "STAT")) (is_tail (drop 4 (first_line bs))) p.0 in
    let a = worded (first_line bs) (ap (every printable) ((bytes_eq-Decides (take 4 (first_line bs)) (codes "STAT")).0 q.0)) q.1 in
    let n = after (next_of bs) coded t.0 p.1 in
    let g = next_some bs n.0 (sym n.1) in
    let e : coded (next_line bs) ≡ Some t.0 = ap coded (sym g.1) ∙ n.2 in
    let r = passed (is_tail (drop 4 (next_line bs))) (code_of (take 4 (next_line bs))) t.0 e in
    let b = worded (next_line bs) (code_printable (take 4 (next_line bs)) t.0 r.1) r.0 in
    let o = goes_on_parts bs g.0 in
    let x = length-take-le (line_end bs) bs (place_within 13 bs) in
    let y = length-drop (line_end bs + 2) bs in
    tidy_from bs (omega (arith, o.before)) (omega (arith, a.few, b.few, o.before)) (laid_on bs a.printed g.0 (laid_line (next_line bs) b.printed))

pub answer_lawful : Lawful answer_format
answer_lawful = stands (λ bs. is_some (answer_of bs)) answer_of answer_tidy

-- ---- related messages

counted : (n : ℕ) (bs : List ℕ) → digits n bs ≡ true → Digits n bs
counted n bs h = let p = and_parts _ _ h in record { long = eqb-true _ _ p.0; digits = p.1 }

record Shape (bs : List ℕ) (most : ℕ) : Type 0 where
  out : laid bs ≡ true
  few : length bs ≤ most

day_shape : (bs : List ℕ) → is_day bs ≡ true → Shape bs 18
day_shape bs h =
    let p = and_parts _ _ h in
    let d = dated (first_line bs) p.0 in
    let x = length-take-le (line_end bs) bs (place_within 13 bs) in
    ⊎_elim
    (λ e.
    let f = eqb-true _ _ e in
    let a : first_line bs ≡ bs = take_all (line_end bs) bs (omega arith) in
    record { out = ap laid (sym a) ∙ laid_line (first_line bs) (digits_printable (first_line bs) d.digits); few = omega (arith, d.long) })
    (λ e.
    let q = and_parts _ _ e in
    let n = counted 10 (next_line bs) q.1 in
    let o = goes_on_parts bs q.0 in
    let y = length-drop (line_end bs + 2) bs in
    record { out = laid_on bs (digits_printable (first_line bs) d.digits) q.0 (laid_line (next_line bs) (digits_printable (next_line bs) n.digits)); few = omega (arith, d.long, n.long, o.before) })
    (or_cases (eqb (line_end bs) (length bs)) (goes_on bs && digits 10 (next_line bs)) p.1)

related_tidy : (bs : List ℕ) → is_related bs ≡ true → tidy bs ≡ true
related_tidy bs h =
    let p = and_parts _ _ h in
    let q = and_parts _ _ p.1 in
    let d = counted 3 (first_line bs) p.0 in
    let s = day_shape (next_line bs) q.1 in
    let o = goes_on_parts bs q.0 in
    let x = length-take-le (line_end bs) bs (place_within 13 bs) in
    let y = length-drop (line_end bs + 2) bs in
    tidy_from bs (omega (arith, o.before)) (omega (arith, d.long, s.few, o.before)) (laid_on bs (digits_printable (first_line bs) d.digits) q.0 s.out)

pub related_lawful : Lawful related_format
related_lawful = stands is_related (λ _. tt) related_tidy
