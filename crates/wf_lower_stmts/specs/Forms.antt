-- The recurring blocks of a method's body in C. Each takes the code that follows it.
use Rattle.std.specs.Prelude.{ℕ, suc, Bool, true, false, ◌||◌, if◌then◌else◌, List, [], ◌∷◌, ◌++◌, Option, Some, codes, not}
use Rattle.wf_base.specs.declared.base_methods.ReadForm.TheVariants.{ReadU8}
use Rattle.wf_ast.specs.declared.types.Ty.{Ty}
use Rattle.wf_ast.specs.declared.types.Ty.TheVariants as types
use Rattle.wf_ast.specs.TypedTree.{local, NumTree, number, read, convert, Awaited, take_number, skip, write, Simple, await, Block, end, plain, choose, loop}
use Rattle.wf_ast.specs.TypedPackage.{Variable, MethodTree, PackageTree}
use Rattle.wf_points.specs.PointNumbers.{is_slice}
use Rattle.c_text.specs.declared.kinds.CNumber.TheVariants.{Int}
use Rattle.c_text.specs.declared.kinds.Otherwise.TheVariants.{Nothing}
use Rattle.c_text.specs.CTree.{ExprTree, variable, member, choice, Code, finish, empty, assign, branch, leave, case_label}
use Rattle.wf_exprs.specs.Names.{Names, names_of, point_field, saved_field, held_field, count_field}
use Rattle.wf_exprs.specs.Words.{num, of_self}
use Rattle.wf_exprs.specs.Exprs.{io_code, place_code, end_code}

-- What lowering knows of a method.
pub record Form : Type 0 where
  pub within : PackageTree
  pub method : MethodTree
  pub names : Names

abbrev pub form_of : PackageTree → MethodTree → Form
form_of p m = record { within = p; method = m; names = names_of p m }

-- Locals of the C function beside the source's: what a call gives, the length of what is copied, where the coroutine goes
-- on, and what a started statement has.
abbrev pub status_local : ExprTree
status_local = variable (codes "status")

abbrev pub got_local : ExprTree
got_local = variable (codes "got")

abbrev pub size_local : ExprTree
size_local = variable (codes "size")

abbrev pub resume_local : ExprTree
resume_local = variable (codes "resume")

abbrev pub held_local : ExprTree
held_local = variable (codes "held")

abbrev pub count_local : ExprTree
count_local = variable (codes "count")

-- `if (test) { body }`
abbrev pub when : ExprTree → (body rest : Code) → Code
when test body rest = branch test body Nothing finish rest

-- The same where the block isn't empty.
abbrev pub when_some : ExprTree → (body rest : Code) → Code
when_some test finish rest = rest
when_some test body rest = when test body rest

-- Readers and writers. Their places are locals of the body. `picks` tells for which arguments something is done, and `n`
-- is the number of the first argument in the list.
abbrev pub is_io : Ty → Bool
is_io types.Reader = true
is_io types.Writer = true
is_io ty = false

-- The place in a buffer, and its end: of a reader where its bytes end, of a writer where its room does, and that is its
-- place once it is closed.
abbrev pub place_in : (buffer : ExprTree) → Ty → ExprTree
place_in buffer types.Writer = member buffer (codes "wi")
place_in buffer ty = member buffer (codes "ri")

abbrev pub end_of : (buffer : ExprTree) → Ty → ExprTree
end_of buffer types.Writer = choice (member buffer (codes "closed")) (member buffer (codes "wi")) (member buffer (codes "len"))
end_of buffer ty = member buffer (codes "wi")

-- `a_src->ri = p_src;`, and back.
abbrev pub put : Names → (picks : ℕ → Bool) → (n : ℕ) → List Variable → (rest : Code) → Code
put names picks n [] rest = rest
put names picks n (x ∷ xs) rest =
    if is_io x.ty then (if picks n then assign (place_in (io_code names n) x.ty) (place_code names n) (put names picks (suc n) xs rest) else put names picks (suc n) xs rest)
    else put names picks (suc n) xs rest

abbrev pub get : Names → (picks : ℕ → Bool) → (n : ℕ) → List Variable → (rest : Code) → Code
get names picks n [] rest = rest
get names picks n (x ∷ xs) rest =
    if is_io x.ty then (if picks n then assign (place_code names n) (place_in (io_code names n) x.ty) (assign (end_code names n) (end_of (io_code names n) x.ty) (get names picks (suc n) xs rest)) else get names picks (suc n) xs rest)
    else get names picks (suc n) xs rest

abbrev pub put_all : Form → (rest : Code) → Code
put_all f rest = put f.names (λ n. true) 0 f.method.args rest

-- What a coroutine keeps in its struct while it is suspended: its locals but slices, and what a started statement has.
abbrev pub is_kept : Ty → Bool
is_kept ty = not (is_slice ty)

abbrev pub local_code : Variable → ExprTree
local_code x = variable (codes "v_" ++ x.name)

abbrev pub saved_code : (method : List ℕ) → Variable → ExprTree
saved_code method x = of_self (saved_field method x.name)

abbrev pub save_locals : (method : List ℕ) → List Variable → (rest : Code) → Code
save_locals method [] rest = rest
save_locals method (x ∷ xs) rest = if is_kept x.ty then assign (saved_code method x) (local_code x) (save_locals method xs rest) else save_locals method xs rest

abbrev pub restore_locals : (method : List ℕ) → List Variable → (rest : Code) → Code
restore_locals method [] rest = rest
restore_locals method (x ∷ xs) rest = if is_kept x.ty then assign (local_code x) (saved_code method x) (restore_locals method xs rest) else restore_locals method xs rest

-- A resumed call has this number again: a constant, or a local, which it restores.
abbrev pub stays : NumTree → Bool
stays (number at n) = true
stays (read at of (local n)) = true
stays (convert at sign bits a) = stays a
stays t = false

-- What a base call has begun where it suspends. A read of one byte has taken nothing; a read of more has taken some, and
-- counts them; a skip has taken some, and a write has its byte.
abbrev pub holds_something : Awaited → Bool
holds_something (take_number ReadU8) = false
holds_something (take_number form) = true
holds_something (skip count) = true
holds_something (write byte) = not (stays byte)

abbrev pub counts_bytes : Awaited → Bool
counts_bytes (take_number ReadU8) = false
counts_bytes (take_number form) = true
counts_bytes call = false

abbrev pub awaits : (test : Awaited → Bool) → Simple → Bool
awaits test (await at target io_arg call) = test call
awaits test s = false

-- A base call that passes a test stands in the block.
abbrev pub keeps : (test : Awaited → Bool) → Block → Bool
keeps test end = false
keeps test (plain site s rest) = awaits test s || keeps test rest
keeps test (choose site chained c a b rest) = keeps test a || (keeps test b || keeps test rest)
keeps test (loop site head body rest) = keeps test body || keeps test rest

abbrev pub save_held : MethodTree → (rest : Code) → Code
save_held m rest = if keeps holds_something m.body then assign (of_self (held_field m.name)) held_local rest else rest

abbrev pub save_count : MethodTree → (rest : Code) → Code
save_count m rest = if keeps counts_bytes m.body then assign (of_self (count_field m.name)) count_local rest else rest

abbrev pub save_started : MethodTree → (rest : Code) → Code
save_started m rest = save_held m (save_count m rest)

abbrev pub restore_held : MethodTree → (rest : Code) → Code
restore_held m rest = if keeps holds_something m.body then assign held_local (of_self (held_field m.name)) rest else rest

abbrev pub restore_count : MethodTree → (rest : Code) → Code
restore_count m rest = if keeps counts_bytes m.body then assign count_local (of_self (count_field m.name)) rest else rest

abbrev pub restore_started : MethodTree → (rest : Code) → Code
restore_started m rest = restore_held m (restore_count m rest)

-- The end of a call: the places go back to the buffers, and the function returns. At a suspension it first keeps what it
-- has, and the number of the point.
abbrev pub give : Form → Option ExprTree → (rest : Code) → Code
give f value rest = put_all f (leave value rest)

abbrev pub suspend : Form → (k : ℕ) → (status : ExprTree) → (rest : Code) → Code
suspend f k status rest =
    save_locals f.method.name f.method.locals (save_started f.method (assign (of_self (point_field f.method.name)) (num k) (give f (Some status) rest)))

-- `if (0) { case k: ; }`: what stands before it goes on after it without falling into a `case`.
abbrev pub resume_here : (k : ℕ) → (rest : Code) → Code
resume_here k rest = when (num 0) (case_label (Int k) (empty finish)) rest
