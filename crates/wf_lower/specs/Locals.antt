-- The locals of a body, part by part.
use Rattle.std.specs.Prelude.{ℕ, List, [], ◌∷◌, if◌then◌else◌, codes}
use Rattle.wf_ast.specs.declared.types.Ty.{Ty}
use Rattle.c_text.specs.declared.kinds.CUint.TheVariants.{U8, U64}
use Rattle.c_text.specs.CTree.{uint, size, text, uint_pointer, member, LocalTree}
use Rattle.wf_exprs.specs.Exprs.{io_code}
use Rattle.wf_exprs.specs.Names.{Names, io_place, io_end, io_bytes}
use Rattle.wf_exprs.specs.Words.{num}
use Rattle.wf_lower_stmts.specs.Forms.{is_io, place_in, end_of}
use Rattle.wf_lower.specs.Bodies.{declared}

-- The place and the end of an argument of this type, and the pointer to its bytes.
abbrev pub place_locals : Names → (n : ℕ) → Ty → List LocalTree
place_locals names n ty = if is_io ty then declared size (io_place names n) (place_in (io_code names n) ty) ∷ declared size (io_end names n) (end_of (io_code names n) ty) ∷ [] else []

abbrev pub bytes_in : Names → (n : ℕ) → Ty → List LocalTree
bytes_in names n ty = if is_io ty then declared (uint_pointer U8) (io_bytes names n) (member (io_code names n) (codes "ptr")) ∷ [] else []

-- What a call answers with how many bytes are copied, and what a started statement has.
abbrev pub answer_locals : List LocalTree
answer_locals = declared text (codes "status") (num 0) ∷ declared (uint U64) (codes "got") (num 0) ∷ declared size (codes "size") (num 0) ∷ []

abbrev pub started_locals : List LocalTree
started_locals = declared (uint U64) (codes "held") (num 0) ∷ declared (uint U8) (codes "count") (num 0) ∷ []
