-- A body of a text that has a reader and no pointer to its bytes, at its first statement. All that the laws of expressions suppose
-- is so there.
use Rattle.std.specs.Prelude.{ℕ, true, false, nat_eq, Bool, List, [], ◌∷◌, ◌++◌, map, drop, Some, None, codes}
use Rattle.wf_base.specs.BaseOps.{Buffer}
use Rattle.wf_base.specs.declared.marks.Mark.TheVariants.{Impure}
use Rattle.wf_base.specs.declared.widths.Width.TheVariants.{W64}
use Rattle.wf_ast.specs.declared.types.Ty.TheVariants as types
use Rattle.wf_ast.specs.BaseStatuses.{base_statuses}
use Rattle.wf_ast.specs.TypedTree.{NumTree, asked, reader_length, numeric, give_back, end, plain}
use Rattle.wf_ast.specs.TypedPackage.{MethodTree, PackageTree}
use Rattle.wf_ast.specs.Value.{State, buffer}
use Rattle.wf_ast.specs.WellTyped.{Context}
use Rattle.wf_meaning.specs.Examples.{on, site, variable}
use Rattle.wf_meaning.specs.SourceState.{ready}
use Rattle.wf_meaning.specs.World.{Body, World, view}
use Rattle.c_text.specs.declared.kinds.Linkage.TheVariants.{Static}
use Rattle.c_meaning.specs.declared.cells.Cell.TheVariants.{Num as num, At as at}
use Rattle.c_meaning.specs.declared.cells.CellType.TheVariants.{U8 as u8, U32 as u32, U64 as u64, Pointer as pointer}
use Rattle.c_meaning.specs.declared.values.CValue.{CValue}
use Rattle.c_meaning.specs.declared.values.CValue.TheVariants.{Address as address}
use Rattle.c_meaning.specs.CValues.{to_object}
use Rattle.c_meaning.specs.CMemory.{Object, Memory}
use Rattle.c_meaning.specs.CTypes.{Function}
use Rattle.c_meaning.specs.CExprs.{Surroundings}
use Rattle.c_meaning.specs.CStep.{Running, surroundings}
use Rattle.c_meaning.specs.CCall.{Program, program_of, expression_call, call_of, running}
use Rattle.c_meaning.specs.CRun.{text_object, one_cell, buffer_object, bytes_object}
use Rattle.wf_exprs.specs.Names.{Names, names_of, body_name}
use Rattle.wf_lower_stmts.specs.Forms.{Form, form_of}
use Rattle.wf_lower.specs.Bodies.{params_of, result_of, body_locals, body_code, own_names, touched}
use Rattle.wf_lower.specs.Unit.{lowered_unit}

--     pub struct gauge?()
--     pub func gauge.left!(src: base.io_reader) base.u64 {
--         return args.src.length()
--     }
abbrev pub length_asked : NumTree
length_asked = asked (on 3 21) reader_length 0

abbrev pub left : MethodTree
left =
    record { name = codes "left"; of = 0; public = true; mark = Impure; args = variable (codes "src") types.Reader ∷ []; locals = []; gives = Some (types.Num W64 0 18446744073709551615); body = plain (site 0 3 5) (give_back (Some (numeric length_asked))) end }

abbrev pub gauge : PackageTree
gauge =
    record { package_name = codes "gauge"; statuses = base_statuses; structs = record { name = codes "gauge"; public = true; fields = [] } ∷ []; methods = left ∷ []; order = 0 ∷ []; struct_order = 0 ∷ [] }

abbrev pub in_left : Context
in_left = record { within = gauge; method = left }

abbrev pub names : Names
names = names_of gauge left

-- Three of four bytes are written, and one of them is read.
abbrev pub four_bytes : Buffer
four_bytes = record { cells = 7 ∷ 8 ∷ 9 ∷ 0 ∷ []; ri = 1; wi = 3; pos = 5; closed = false }

-- What the source's body sees.
abbrev pub receiver_and_buffer : World
receiver_and_buffer =
    record { objects = record { life = ready; fields = []; active = None; remaining = None ∷ [] } ∷ []; host = record { buffers = four_bytes ∷ []; arrays = [] } }

abbrev pub asking : Body
asking = record { within = gauge; object = 0; method = left; args = buffer 0 ∷ [] }

abbrev pub seen : State
seen = view asking [] receiver_and_buffer

-- The body in C:
--
--     static uint64_t body_gauge__left(wuffs_gauge__gauge* self, wuffs_base__io_buffer* a_src) {
--       size_t p_src = a_src->ri;
--       size_t e_src = a_src->wi;
--       if (self) { }
--       a_src->ri = p_src;
--       return e_src - p_src;
--     }
abbrev pub form : Form
form = form_of gauge left

abbrev pub left_body : Function
left_body = record {
  linkage = Static;
  result_type = result_of left;
  name = body_name gauge left;
  params = params_of gauge left;
  locals = body_locals form;
  body = touched (own_names form) (body_code form) (body_code form);
}

abbrev pub program : Program
program = program_of (lowered_unit gauge)

-- Memory as a call finds it: the strings of the text, of which there is one, the receiver, the buffer, and the buffer's bytes.
abbrev pub ready_object : Object
ready_object = one_cell u8 (num 1) ∷ one_cell u32 (num 0) ∷ []

abbrev pub before_call : Memory
before_call = map text_object program.texts ++ (ready_object ∷ buffer_object four_bytes 3 ∷ bytes_object four_bytes.cells ∷ [])

abbrev pub handed : List CValue
handed = address (to_object 1) ∷ address (to_object 2) ∷ []

-- The parameters and locals stand in an object of their own, and have their first values.
abbrev pub frame : Object
frame = one_cell pointer (at (to_object 1)) ∷ one_cell pointer (at (to_object 2)) ∷ one_cell u64 (num 1) ∷ one_cell u64 (num 3) ∷ []

abbrev pub in_body : Memory
in_body = before_call ++ frame ∷ []

-- Only the function that initializes stands before the body.
abbrev pub running_left : Running
running_left = running program left_body (expression_call program (drop 2 program.functions)) (call_of program (drop 2 program.functions)) 4

abbrev pub inside : Surroundings
inside = surroundings running_left in_body

-- The text has no function of a saturating operator, one status, and the body no pointer to bytes.
abbrev pub no_helpers : (sum : Bool) → (bits : ℕ) → Bool
no_helpers sum bits = false

abbrev pub bad_receiver_alone : (status : ℕ) → Bool
bad_receiver_alone n = nat_eq n 4

abbrev pub no_bytes : (io_arg : ℕ) → Bool
no_bytes a = false
