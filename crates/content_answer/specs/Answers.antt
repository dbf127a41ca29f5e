-- Answers: STAT[/stamp] CR LF code[/stamp].
use Rattle.std.specs.Prelude.{ℕ, Bool, cond, ◌&&◌, ◌||◌, List, length, take, drop, is_some, Some, None, codes, Option, ◌==◌, slice_index}
use Rattle.std.specs.Str.{bytes_eq}
use Rattle.mt_text.specs.Classes.{among}
use Rattle.contents.specs.Digits.{and_then}
use Rattle.contents.specs.Dates.{date_of}
use Rattle.contents.specs.Times.{time_of}
use Rattle.content_lines.specs.Formats.{Format, as_it_stands}
use Rattle.content_lines.specs.Lines.{first_line, next_of}
use Rattle.content_answer.specs.declared.answers.AnswerCode.{AnswerCode}
use Rattle.content_answer.specs.declared.answers.AnswerCode.TheVariants.{Rejt, Canc, Exec, Setl, Errc, Errp, Wait, Susp, Inac}

-- the nine codes by their letters
abbrev pub last_codes : List ℕ → Option AnswerCode
last_codes word =
    cond (bytes_eq word (codes "ERRC")) (Some Errc)
    (cond (bytes_eq word (codes "ERRP")) (Some Errp)
    (cond (bytes_eq word (codes "WAIT")) (Some Wait)
    (cond (bytes_eq word (codes "SUSP")) (Some Susp)
    (cond (bytes_eq word (codes "INAC")) (Some Inac) None))))

abbrev pub code_of : List ℕ → Option AnswerCode
code_of word =
    cond (bytes_eq word (codes "REJT")) (Some Rejt)
    (cond (bytes_eq word (codes "CANC")) (Some Canc)
    (cond (bytes_eq word (codes "EXEC")) (Some Exec)
    (cond (bytes_eq word (codes "SETL")) (Some Setl) (last_codes word))))

-- a stamp: date, time, + or -, and again a time
abbrev pub is_stamp : List ℕ → Bool
is_stamp s = length s == 15 && (is_some (date_of (take 6 s)) && (is_some (time_of (take 4 (drop 6 s))) && (among (codes "+-") (slice_index s 10) && is_some (time_of (drop 11 s)))))

-- what may stand behind a word: nothing, or a slash (47) and a stamp
abbrev pub is_tail : List ℕ → Bool
is_tail t = length t == 0 || (slice_index t 0 == 47 && is_stamp (drop 1 t))

-- a line begins with a word of four letters
abbrev pub is_stat : List ℕ → Bool
is_stat line = bytes_eq (take 4 line) (codes "STAT") && is_tail (drop 4 line)

abbrev pub coded : List ℕ → Option AnswerCode
coded line = cond (is_tail (drop 4 line)) (code_of (take 4 line)) None

abbrev pub answer_of : List ℕ → Option AnswerCode
answer_of bs = cond (is_stat (first_line bs)) (and_then (next_of bs) coded) None

abbrev pub answer_format : Format (Option AnswerCode)
answer_format = as_it_stands (λ bs. is_some (answer_of bs)) answer_of
