-- The functions of a method: its body, and its entry for callers outside.
use Rattle.std.specs.Prelude.{ℕ, suc, ◌+◌, ◌-◌, ◌^◌, true, if◌then◌else◌, nat_lt, List, [], ◌∷◌, ◌++◌, map, Option, None, Some, codes}
use Rattle.wf_text.specs.Surface.{PublicArg, AnswerKind}
use Rattle.wf_text.specs.Surface as surface
use Rattle.wf_base.specs.declared.marks.Mark.{Mark}
use Rattle.wf_base.specs.BaseTable.{bits_of}
use Rattle.wf_ast.specs.declared.types.Ty.{Ty}
use Rattle.wf_ast.specs.declared.types.Ty.TheVariants as types
use Rattle.wf_ast.specs.TypedPackage.{Variable, MethodTree, PackageTree, kind_of, answers_of}
use Rattle.wf_ast.specs.WellTyped.{is_coroutine, is_pure}
use Rattle.wf_meaning.specs.Entry.{bad_receiver, bad_argument, not_initialized, interleaved, was_disabled}
use Rattle.wf_meaning.specs.Remaining.{number_of}
use Rattle.c_text.specs.declared.kinds.CNumber.TheVariants.{Int}
use Rattle.c_text.specs.declared.kinds.COp.TheVariants.{Lt, Gt, Eq, Ne, Both, Either}
use Rattle.c_text.specs.declared.kinds.CUint.TheVariants.{U8, U16, U64}
use Rattle.c_text.specs.declared.kinds.CUnary.TheVariants.{Not}
use Rattle.c_text.specs.declared.kinds.Linkage.TheVariants.{External, Static}
use Rattle.c_text.specs.CTree.{TypeTree, uint, size, boolean, uint_pointer, struct_pointer, text, ExprTree, variable, member, element, unary, Code, finish, empty, assign, call, select, leave, case_label, ParamTree, LocalTree, ItemTree, function_item}
use Rattle.c_meaning.specs.UnitForm.{args_params, answer_type}
use Rattle.wf_exprs.specs.Names.{io_place, io_end, io_bytes, point_field, struct_type, entry_name, body_name}
use Rattle.wf_exprs.specs.Words.{width_of, num, two, self, of_self, args}
use Rattle.wf_exprs.specs.Exprs.{chained, status_constant, io_code}
use Rattle.wf_exprs.specs.Reads.{code_reads}
use Rattle.wf_lower_stmts.specs.Forms.{Form, form_of, status_local, got_local, resume_local, when, when_some, is_io, place_in, end_of, restore_locals, restore_started}
use Rattle.wf_lower_stmts.specs.Lower.{lower, ending, tail_of, top}
use Rattle.wf_lower.specs.Called.{has_entry}

abbrev pub declared : TypeTree → List ℕ → ExprTree → LocalTree
declared type name initial = record { kind = type; name = name; initial = Some initial }

-- Parameters: the receiver, and each argument as its public kind has it.
abbrev pub public_args : List Variable → List PublicArg
public_args xs = map (λ x. record { name = x.name; kind = kind_of x.ty }) xs

abbrev pub params_of : PackageTree → MethodTree → List ParamTree
params_of p m = record { kind = struct_pointer (struct_type p m.of); name = codes "self" } ∷ args_params (public_args m.args)

abbrev pub result_of : MethodTree → Option TypeTree
result_of m = answer_type (answers_of m.mark m.gives)

-- The locals of a body: the places and ends of its readers and writers, the source's locals, zero, false, ok or empty, and
-- where the code uses them the pointers to the bytes of readers and writers, and what else it uses.
abbrev pub io_locals : Form → (n : ℕ) → List Variable → List LocalTree
io_locals f n [] = []
io_locals f n (x ∷ xs) =
    if is_io x.ty then declared size (io_place f.names n) (place_in (io_code f.names n) x.ty) ∷ declared size (io_end f.names n) (end_of (io_code f.names n) x.ty) ∷ io_locals f (suc n) xs
    else io_locals f (suc n) xs

abbrev pub local_of : Variable → List LocalTree
local_of x = by_type x.ty
  where
    by_type : Ty → List LocalTree
    by_type (types.Num width lo hi) = declared (uint (width_of (bits_of width))) (codes "v_" ++ x.name) (num 0) ∷ []
    by_type types.Flag = declared boolean (codes "v_" ++ x.name) (num 0) ∷ []
    by_type types.Status = declared text (codes "v_" ++ x.name) (num 0) ∷ []
    by_type (types.Slice width) = declared (uint_pointer (width_of (bits_of width))) (codes "vp_" ++ x.name) (num 0) ∷ declared size (codes "vl_" ++ x.name) (num 0) ∷ []
    by_type ty = []

abbrev pub locals_of : List Variable → List LocalTree
locals_of [] = []
locals_of (x ∷ xs) = local_of x ++ locals_of xs

abbrev pub resume_of : MethodTree → LocalTree
resume_of m = declared (uint U16) (codes "resume") (of_self (point_field m.name))

abbrev pub further_locals : List LocalTree
further_locals =
    declared text (codes "status") (num 0) ∷ declared (uint U64) (codes "got") (num 0) ∷ declared size (codes "size") (num 0) ∷ declared (uint U64) (codes "held") (num 0) ∷ declared (uint U8) (codes "count") (num 0) ∷ []

abbrev pub bytes_locals : Form → (n : ℕ) → List Variable → List LocalTree
bytes_locals f n [] = []
bytes_locals f n (x ∷ xs) =
    if is_io x.ty then declared (uint_pointer U8) (io_bytes f.names n) (member (io_code f.names n) (codes "ptr")) ∷ bytes_locals f (suc n) xs
    else bytes_locals f (suc n) xs

abbrev pub only_read : Code → List LocalTree → List LocalTree
only_read code [] = []
only_read code (l ∷ ls) = if code_reads l.name code then l ∷ only_read code ls else only_read code ls

-- `if (name) { }` for each name that nothing reads, so that no compiler speaks of it.
abbrev pub touched : List (List ℕ) → (code : Code) → (rest : Code) → Code
touched [] code rest = rest
touched (name ∷ names) code rest = if code_reads name code then touched names code rest else when (variable name) finish (touched names code rest)

-- The body. That of a coroutine takes the number of the point where it goes on out of its struct, and what it kept there.
abbrev pub resumed : Form → Code
resumed f = restore_locals f.method.name f.method.locals (restore_started f.method finish)

abbrev pub statements_of : Form → Code
statements_of f = lower f (number_of f.method.body) f.method.body (tail_of f top)

abbrev pub coroutine_code : Form → Code
coroutine_code f =
    assign (of_self (point_field f.method.name)) (num 0) (when_some resume_local (resumed f)
    (select resume_local (case_label (Int 0) (empty (statements_of f))) (ending f)))

abbrev pub body_code : Form → Code
body_code f = if is_coroutine f.method.mark then coroutine_code f else statements_of f

abbrev pub fixed_locals : Form → List LocalTree
fixed_locals f = io_locals f 0 f.method.args ++ locals_of f.method.locals

abbrev pub own_names : Form → List (List ℕ)
own_names f = map (λ x. x.name) (params_of f.within f.method) ++ map (λ x. x.name) (fixed_locals f)

abbrev pub body_locals : Form → List LocalTree
body_locals f =
    fixed_locals f ++ (only_read (body_code f) (bytes_locals f 0 f.method.args) ++ (only_read (body_code f) further_locals ++ (if is_coroutine f.method.mark then resume_of f.method ∷ [] else [])))

abbrev pub body_function : Form → ItemTree
body_function f =
    function_item Static (result_of f.method) (body_name f.within f.method) (params_of f.within f.method) (body_locals f) (touched (own_names f) (body_code f) (body_code f))

-- The entry: the table's rows in order, and after them the body. `life` is 0 for raw, 1 for ready, 2 for disabled, and
-- `active` is 0 where no coroutine is active, else one more than its method's number.
abbrev pub refused_with : AnswerKind → (status : ℕ) → Option ExprTree
refused_with surface.status n = Some (status_constant n)
refused_with (surface.numeric bits) n = Some (num 0)
refused_with surface.truth n = Some (num 0)
refused_with surface.nothing n = None

abbrev pub refuse : MethodTree → (status : ℕ) → Code
refuse m n = leave (refused_with (answers_of m.mark m.gives) n) finish

abbrev pub life : ExprTree
life = of_self (codes "life")

abbrev pub active : ExprTree
active = of_self (codes "active")

abbrev pub disable : (rest : Code) → Code
disable rest = assign life (num 2) rest

abbrev pub disable_if_marked : Mark → (rest : Code) → Code
disable_if_marked mark rest = if is_pure mark then rest else disable rest

-- What is wrong with an argument: a null buffer, or a number outside its refinement.
abbrev pub wrong_number : (name : List ℕ) → (bits low high : ℕ) → List ExprTree
wrong_number name bits low high =
    (if nat_lt 0 low then two Lt (variable name) (num low) ∷ [] else []) ++ (if nat_lt high (2 ^ bits - 1) then two Gt (variable name) (num high) ∷ [] else [])

abbrev pub wrong_arg : (name : List ℕ) → Ty → List ExprTree
wrong_arg name (types.Num width lo hi) = wrong_number name (bits_of width) lo hi
wrong_arg name types.Reader = unary Not (variable name) ∷ []
wrong_arg name types.Writer = unary Not (variable name) ∷ []
wrong_arg name ty = []

abbrev pub wrong_args : List Variable → List ExprTree
wrong_args [] = []
wrong_args (x ∷ xs) = wrong_arg (codes "a_" ++ x.name) x.ty ++ wrong_args xs

abbrev pub either_of : ExprTree → List ExprTree → ExprTree
either_of e [] = e
either_of e (f ∷ fs) = either_of (chained true Either e f) fs

abbrev pub when_any : List ExprTree → (body rest : Code) → Code
when_any [] body rest = rest
when_any (e ∷ es) body rest = when (either_of e es) body rest

-- The rows of a disabled receiver, of wrong arguments and of another active coroutine.
abbrev pub when_disabled : MethodTree → (rest : Code) → Code
when_disabled m rest = if is_pure m.mark then rest else when (two Eq (num 2) life) (refuse m was_disabled) rest

abbrev pub when_wrong : MethodTree → (rest : Code) → Code
when_wrong m rest = when_any (wrong_args m.args) (disable_if_marked m.mark (refuse m bad_argument)) rest

abbrev pub when_other : (number : ℕ) → MethodTree → (rest : Code) → Code
when_other n m rest = if is_coroutine m.mark then when (two Both active (two Ne active (num (n + 1)))) (disable (refuse m interleaved)) rest else rest

abbrev pub table : (number : ℕ) → MethodTree → (rest : Code) → Code
table n m rest = when (unary Not self) (refuse m bad_receiver) (when (two Eq (num 0) life) (refuse m not_initialized) (when_disabled m (when_wrong m (when_other n m rest))))

-- After the body of a coroutine: a suspension makes it active, every other end leaves none active, and an error disables.
abbrev pub first_is : (byte : ℕ) → ExprTree
first_is byte = two Eq (num byte) (element status_local (num 0))

abbrev pub settle : (number : ℕ) → (rest : Code) → Code
settle n rest =
    assign active (num 0) (when status_local (when (first_is 36) (assign active (num (n + 1)) finish) (when (first_is 35) (disable finish) finish)) rest)

abbrev pub settle_if_coroutine : (number : ℕ) → MethodTree → (rest : Code) → Code
settle_if_coroutine n m rest = if is_coroutine m.mark then settle n rest else rest

abbrev pub answer_locals : AnswerKind → List LocalTree
answer_locals surface.status = declared text (codes "status") (num 0) ∷ []
answer_locals (surface.numeric bits) = declared (uint (width_of bits)) (codes "got") (num 0) ∷ []
answer_locals surface.truth = declared boolean (codes "got") (num 0) ∷ []
answer_locals surface.nothing = []

abbrev pub answer_in : AnswerKind → Option ExprTree
answer_in surface.status = Some status_local
answer_in (surface.numeric bits) = Some got_local
answer_in surface.truth = Some got_local
answer_in surface.nothing = None

abbrev pub answered : Option ExprTree → Code
answered None = finish
answered (Some e) = leave (Some e) finish

-- What was passed is handed on as it is.
abbrev pub handed : List ParamTree → List ExprTree
handed params = map (λ x. variable x.name) params

abbrev pub entry_code : PackageTree → (number : ℕ) → MethodTree → Code
entry_code p n m =
    table n m (call (answer_in (answers_of m.mark m.gives)) (body_name p m) (args (handed (params_of p m))) (settle_if_coroutine n m (answered (answer_in (answers_of m.mark m.gives)))))

abbrev pub entry_function : PackageTree → (number : ℕ) → MethodTree → ItemTree
entry_function p n m = function_item External (result_of m) (entry_name p m) (params_of p m) (answer_locals (answers_of m.mark m.gives)) (entry_code p n m)

-- The functions of the method with this number.
abbrev pub functions_of : PackageTree → (number : ℕ) → Option MethodTree → List ItemTree
functions_of p n None = []
functions_of p n (Some m) = body_function (form_of p m) ∷ (if has_entry p n m then entry_function p n m ∷ [] else [])
