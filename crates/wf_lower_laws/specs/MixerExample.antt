-- A method that reads a local, an argument, a field, a slice, an array, a flag and a status. In its body in C, after the first
-- statement, all that the law of expressions supposes is so.
use Rattle.std.specs.Prelude.{◌≡◌, ℕ, Bool, true, false, List, [], ◌∷◌, ◌++◌, map, drop, Some, None, codes}
use Rattle.wf_text.specs.HostActions.{HostArg}
use Rattle.wf_text.specs.HostActions as host
use Rattle.wf_base.specs.HostRun.{Host}
use Rattle.wf_base.specs.declared.marks.Mark.TheVariants.{Impure}
use Rattle.wf_base.specs.declared.widths.Width.TheVariants.{W8, W16}
use Rattle.wf_ast.specs.declared.types.Ty.TheVariants as types
use Rattle.wf_ast.specs.BaseStatuses.{base_statuses}
use Rattle.wf_ast.specs.TypedTree.{NumType, local, arg, field, NumTree, number, read, element, link, convert, length_of, mod_times, shift_left, sat_plus, SliceTree, slice, array, cut, present, status, held, CondTree, compare, same_status, junction, negation, less, at_least, numeric, logical, elements, Target, to_number, to_flag, to_slice, assign, give_back, Block, end, plain, choose}
use Rattle.wf_ast.specs.TypedTree as tree
use Rattle.wf_ast.specs.TypedPackage.{MethodTree, PackageTree}
use Rattle.wf_ast.specs.Value.{State, Span, host_array, num, span}
use Rattle.wf_ast.specs.WellTyped.{Context}
use Rattle.wf_meaning.specs.Examples.{on, site, variable, byte_type, word_type, byte_ty, word_ty}
use Rattle.wf_meaning.specs.SourceState.{ready, held_num, held_truth, held_status, held_cells}
use Rattle.wf_meaning.specs.World.{Body, World, Vars, empty_span, view}
use Rattle.c_text.specs.declared.kinds.Linkage.TheVariants.{Static}
use Rattle.c_text.specs.CTree.{ItemTree, text_item}
use Rattle.c_meaning.specs.declared.cells.Cell.TheVariants.{Num as cell, At as at, Null as null}
use Rattle.c_meaning.specs.declared.cells.CellType.TheVariants.{U8 as u8, U16 as u16, U32 as u32, U64 as u64, Flag as flag, Pointer as pointer}
use Rattle.c_meaning.specs.declared.values.Pointer.{Pointer}
use Rattle.c_meaning.specs.declared.values.CValue.{CValue}
use Rattle.c_meaning.specs.declared.values.CValue.TheVariants.{Address as address}
use Rattle.c_meaning.specs.CValues.{to_object, holds}
use Rattle.c_meaning.specs.CMemory.{cells, Object, Memory}
use Rattle.c_meaning.specs.CTypes.{Function}
use Rattle.c_meaning.specs.CExprs.{Surroundings, value}
use Rattle.c_meaning.specs.CStep.{Running, surroundings}
use Rattle.c_meaning.specs.CCall.{Program, program_of, expression_call, call_of, running}
use Rattle.c_meaning.specs.CRun.{text_object, one_cell, all_values, call_memory}
use Rattle.wf_exprs.specs.Names.{Names, names_of, body_name, status_name}
use Rattle.wf_exprs.specs.Exprs.{lowered_cond}
use Rattle.wf_exprs.specs.Helpers.{saturating}
use Rattle.wf_lower_stmts.specs.Forms.{Form, form_of}
use Rattle.wf_lower.specs.Bodies.{params_of, result_of, body_locals, body_code, own_names, touched}
use Rattle.wf_lower.specs.Unit.{io_buffer_item, struct_items, all_functions}

--     pub struct mixer?(
--         level : base.u32,
--         loud : base.bool,
--         last : base.status,
--         table : array[3] base.u8,
--     )
--     pub func mixer.mix!(gain: base.u16, src: slice base.u8) base.u8 {
--         var c : base.u8
--         var part : slice base.u8
--         c = 200
--         if args.src.length() >= 3 {
--             part = args.src[1 .. 3]
--             this.loud = this.loud and (args.src[2] < c) and (this.last == base."#bad argument")
--         }
--         this.level = (args.gain as base.u32) << 4
--         this.level = (args.gain ~mod* args.gain) as base.u32
--         return c ~sat+ this.table[1]
--     }
abbrev pub half_type : NumType
half_type = record { bits = 16; low = 0; high = 65535 }

abbrev src : (line col : ℕ) → SliceTree
src line col = slice (on line col) 8 (arg 1)

abbrev gain : (line col : ℕ) → NumTree
gain line col = read (on line col) half_type (arg 0)

-- `args.src[1 .. 3]`
abbrev pub middle : SliceTree
middle = cut (on 12 28) (src 12 20) (present (number (on 12 29) 1)) (present (number (on 12 34) 3))

-- `this.loud and (args.src[2] < c) and (this.last == base."#bad argument")`
abbrev pub stays_loud : CondTree
stays_loud =
    junction (on 13 53) true true
    (junction (on 13 35) true false (tree.flag (on 13 25) (field 1))
    (compare (on 13 40) (on 13 52) (element (on 13 48) byte_type (src 13 40) (number (on 13 49) 2)) less (read (on 13 54) byte_type (local 0))))
    (same_status (on 13 62) (on 13 72) (held (on 13 62) (field 2)) true (status (on 13 75) 5))

-- Not that: false, where the other is true.
abbrev pub goes_silent : CondTree
goes_silent = negation (on 13 25) stays_loud

-- `(args.gain as base.u32) << 4`
abbrev pub raised : NumTree
raised = link (on 15 22) (on 15 45) shift_left 32 false (convert (on 15 23) (on 15 33) 32 (gain 15 23)) (number (on 15 48) 4)

-- `args.gain ~mod* args.gain`
abbrev pub squared : NumTree
squared = link (on 16 23) (on 16 33) mod_times 16 false (gain 16 23) (gain 16 39)

-- `c ~sat+ this.table[1]`
abbrev pub mixed : NumTree
mixed =
    link (on 17 16) (on 17 18) sat_plus 8 false (read (on 17 16) byte_type (local 0)) (element (on 17 34) byte_type (array (on 17 24) byte_type 3 (field 3)) (number (on 17 35) 1))

-- `args.src[2]`
abbrev pub third : NumTree
third = element (on 13 48) byte_type (src 13 40) (number (on 13 49) 2)

abbrev level : (line : ℕ) → Target
level line = to_number (on line 9) word_type (field 0)

abbrev body : Block
body =
    plain (site 0 10 9) (assign (to_number (on 10 9) byte_type (local 0)) None (numeric (number (on 10 13) 200)))
    (choose (site 1 11 9) false (compare (on 11 12) (on 11 30) (length_of (on 11 21) (src 11 12)) at_least (number (on 11 33) 3))
    (plain (site 2 12 13) (assign (to_slice (on 12 13) 8 (local 1)) None (elements middle))
    (plain (site 3 13 13) (assign (to_flag (on 13 13) (field 1)) None (logical stays_loud)) end)) end
    (plain (site 4 15 9) (assign (level 15) None (numeric raised))
    (plain (site 5 16 9) (assign (level 16) None (numeric (convert (on 16 22) (on 16 50) 32 squared)))
    (plain (site 6 17 9) (give_back (Some (numeric mixed))) end))))

abbrev pub mix : MethodTree
mix = record {
  name = codes "mix";
  of = 0;
  public = true;
  mark = Impure;
  args = variable (codes "gain") (types.Num W16 0 65535) ∷ variable (codes "src") (types.Slice W8) ∷ [];
  locals = variable (codes "c") byte_ty ∷ variable (codes "part") (types.Slice W8) ∷ [];
  gives = Some byte_ty;
  body = body;
}

abbrev pub mixer : PackageTree
mixer = record {
  package_name = codes "mixer";
  statuses = base_statuses;
  structs = record {
    name = codes "mixer";
    public = true;
    fields = variable (codes "level") word_ty ∷ variable (codes "loud") types.Flag ∷ variable (codes "last") types.Status ∷ variable (codes "table") (types.Array W8 0 255 3) ∷ [];
  } ∷ [];
  methods = mix ∷ [];
  order = 0 ∷ [];
  struct_order = 0 ∷ [];
}

abbrev pub in_mix : Context
in_mix = record { within = mixer; method = mix }

abbrev pub names : Names
names = names_of mixer mix

-- A host calls it with a number and four bytes.
abbrev pub of_host : Host
of_host = record { buffers = []; arrays = (9 ∷ 8 ∷ 7 ∷ 6 ∷ []) ∷ [] }

abbrev pub passed : List HostArg
passed = host.num 65535 ∷ host.bytes (Some 0) ∷ []

-- What the source's body sees: the receiver as earlier calls have left it, and `c` after the first statement.
abbrev pub receiver_and_bytes : World
receiver_and_bytes = record {
  objects = record { life = ready; fields = held_num 7 ∷ held_truth true ∷ held_status 5 ∷ held_cells (10 ∷ 100 ∷ 30 ∷ []) ∷ []; active = None; remaining = None ∷ [] } ∷ [];
  host = of_host;
}

abbrev pub all_bytes : Span
all_bytes = record { store = host_array 0; from = 0; count = 4 }

abbrev pub middle_bytes : Span
middle_bytes = record { store = host_array 0; from = 1; count = 2 }

abbrev pub mixing : Body
mixing = record { within = mixer; object = 0; method = mix; args = num 65535 ∷ span all_bytes ∷ [] }

abbrev pub with_c : ℕ → Vars
with_c n = record { locals = num n ∷ span empty_span ∷ []; world = receiver_and_bytes }

abbrev pub seen : State
seen = view mixing (with_c 200).locals receiver_and_bytes

-- The text: of statuses and saturating operators it has those that its functions use.
abbrev pub items : List ItemTree
items =
    io_buffer_item ∷ struct_items mixer mixer.struct_order ++ (text_item (status_name 4) (codes "#base: bad receiver") ∷ text_item (status_name 5) (codes "#base: bad argument") ∷ saturating true 8 ∷ all_functions mixer)

abbrev pub program : Program
program = program_of items

-- The body in C:
--
--     static uint8_t body_mixer__mix(wuffs_mixer__mixer* self, uint16_t a_gain, uint8_t* ap_src, size_t al_src) {
--       uint8_t v_c = 0;
--       uint8_t* vp_part = 0;
--       size_t vl_part = 0;
--       size_t size = 0;
--       if (vp_part) { }
--       if (vl_part) { }
--       v_c = 200;
--       if (al_src >= 3) {
--         size = (3 - 1);
--         vp_part = (ap_src ? (ap_src + 1) : ap_src);
--         vl_part = size;
--         self->f_loud = (self->f_loud && (ap_src[2] < v_c) && (status_5 == self->f_last));
--       }
--       self->f_level = ((uint32_t)a_gain << 4);
--       self->f_level = (uint16_t)((uint32_t)a_gain * a_gain);
--       return sat_plus_u8(v_c, self->f_table[1]);
--     }
abbrev pub form : Form
form = form_of mixer mix

abbrev pub mix_body : Function
mix_body = record {
  linkage = Static;
  result_type = result_of mix;
  name = body_name mixer mix;
  params = params_of mixer mix;
  locals = body_locals form;
  body = touched (own_names form) (body_code form) (body_code form);
}

-- Memory as a host's call makes it: the two strings of the text, the receiver, and for each argument a buffer and bytes.
abbrev pub receiver_object : Object
receiver_object =
    one_cell u8 (cell 1) ∷ one_cell u32 (cell 0) ∷ one_cell u32 (cell 7) ∷ one_cell flag (cell 1) ∷ one_cell pointer (at (to_object 1)) ∷ cells u8 (cell 10 ∷ cell 100 ∷ cell 30 ∷ []) ∷ []

abbrev pub before_call : Memory
before_call = call_memory of_host (map text_object program.texts ++ receiver_object ∷ []) 2 passed

abbrev pub handed : List CValue
handed = address (to_object 2) ∷ all_values of_host 3 5 passed

-- The parameters and locals stand in an object of their own, `v_c` with this number.
abbrev pub frame : ℕ → Object
frame n =
    one_cell pointer (at (to_object 2)) ∷ one_cell u16 (cell 65535) ∷ one_cell pointer (at (to_object 6)) ∷ one_cell u64 (cell 4)
    ∷ one_cell u8 (cell n) ∷ one_cell pointer null ∷ one_cell u64 (cell 0) ∷ one_cell u64 (cell 0) ∷ []

abbrev pub in_body : ℕ → Memory
in_body n = before_call ++ frame n ∷ []

-- The function that initializes and that of the saturating operator stand before the body.
abbrev pub running_mix : Running
running_mix = running program mix_body (expression_call program (drop 2 program.functions)) (call_of program (drop 2 program.functions)) 7

abbrev pub inside_with : ℕ → Surroundings
inside_with n = surroundings running_mix (in_body n)

abbrev pub inside : Surroundings
inside = inside_with 200

-- The first byte of the part of the slice.
abbrev pub second_byte : Pointer
second_byte = record { object = 6; field = 0; index = 1 }

-- A condition has a value in C, which holds or doesn't.
abbrev pub Holds : CondTree → Bool → Type 0
Holds t b = (v : CValue) × ((value inside (lowered_cond names t) ≡ Some v) × (holds v ≡ b))
