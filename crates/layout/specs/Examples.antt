-- Worked examples of layouts, each computed from the definitions.
use Rattle.std.specs.Prelude.{◌≡◌, ℕ, List, [], ◌∷◌, ◌++◌, Some, None, Ok, codes}
use Rattle.mt_text.specs.Refusals.{refused_at}
use Rattle.headers.specs.declared.application.Direction.TheVariants.{Input}
use Rattle.layout.specs.Walk.{laid_out}
use Rattle.layout.specs.Render.{Parts, WellFormed, rendered}

-- a line with its CR LF
abbrev pub line : List ℕ → List ℕ
line bs = bs ++ 13 ∷ 10 ∷ []

abbrev pub block_1 : List ℕ
block_1 = codes "{1:F01ABCDMK22AXXX0001000001}"

abbrev pub block_2 : List ℕ
block_2 = codes "{2:I202NBRMMK2AAXXXN}"

-- three fields: an order that stops too early, but is well laid out
abbrev pub order : List ℕ
order = block_1 ++ (block_2 ++ (line (codes "{4:") ++ (line (codes ":20:T1") ++ (line (codes ":21:NONREF") ++ (line (codes ":32A:260105MKD250") ++ codes "-}")))))

-- the same by its parts
abbrev pub order_parts : Parts
order_parts =
    record {
      basic = block_1;
      application = block_2;
      user = None;
      fields =
          record { tag = record { tens = 50; units = 48; letter = None }; content = codes "T1" }
          ∷ record { tag = record { tens = 50; units = 49; letter = None }; content = codes "NONREF" }
          ∷ record { tag = record { tens = 51; units = 50; letter = Some 65 }; content = codes "260105MKD250" }
          ∷ [];
    }

pub record WorkedLayouts : Type 0 where
  -- input of type 202, no block 3, lines from 55 on, three fields, the hyphen at 94
  pub laid : laid_out order ≡ Ok (record { direction = Input; message_type = 202; headers_end = 50; user = None; body = 55; fields = 3; hyphen = 94 })
  -- it is what its parts are written as, and they are well-formed
  pub written : rendered order_parts ≡ order
  pub parts : WellFormed order_parts
  -- what is missing stands where it should begin
  pub alone : laid_out block_1 ≡ refused_at 3 29
  pub no_lines : laid_out (block_1 ++ (block_2 ++ line (codes "{4:"))) ≡ refused_at 5 55
  -- a line end behind the last brace is left over
  pub left_over : laid_out (line order) ≡ refused_at 3 96
