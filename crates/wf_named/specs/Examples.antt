-- Resolved packages that the rules of names leave, and packages next to them that they don't.
use Rattle.std.specs.Prelude.{ℕ, true, false, None, Some, List, [], ◌∷◌, codes}
use Rattle.wf_text.specs.declared.place.Place.{Place}
use Rattle.wf_base.specs.declared.widths.Width.TheVariants.{W8, W32}
use Rattle.wf_base.specs.declared.marks.Mark.TheVariants.{Impure, Coroutine}
use Rattle.wf_base.specs.declared.base_methods.ReadForm.TheVariants.{ReadU8}
use Rattle.wf_base.specs.declared.base_methods.BaseSig.{BaseSig}
use Rattle.wf_base.specs.declared.base_methods.BaseSig.TheVariants.{Read, WriterLength}
use Rattle.wf_ast.specs.declared.operators.Op.TheVariants as ops
use Rattle.wf_named.specs.declared.nodes.BaseType.TheVariants as bases
use Rattle.wf_named.specs.declared.nodes.NamedPath.{NamedPath}
use Rattle.wf_named.specs.declared.nodes.NamedCallee.{NamedCallee}
use Rattle.wf_named.specs.declared.nodes.NamedCallee.TheVariants as callees
use Rattle.wf_named.specs.declared.nodes.Variable.TheVariants as variables
use Rattle.wf_named.specs.NamedTree.{number, status, truth, path, chain, convert, answer, no_link, link, NamedArgTrees, no_arg, more_args, call, NamedTypeTree, base_type, struct_type, unrefined, to_path, no_clause, NamedStmtTree, assign, do_call, branch, loop, leave, back, present, NamedBlockTree, close, more_stmts, no_else, arm, Word, VarTree, ConstTree, NamedStructTree, NamedMethodTree, NamedPackageTree}

-- line and column in the one file
abbrev pub at : (line col : ℕ) → Place
at l c = record { file = 0; line = l; col = c }

abbrev pub word : List ℕ → Place → Word
word text p = record { text = text; at = p }

abbrev pub var : List ℕ → Place → NamedTypeTree → VarTree
var text p of = record { name = word text p; of = of }

abbrev pub local : ℕ → Place → NamedPath
local n p = record { of = variables.Local (record { 0 = n }); at = p }

abbrev pub field : ℕ → Place → NamedPath
field n p = record { of = variables.Field (record { 0 = n }); at = p }

abbrev pub arg : ℕ → Place → NamedPath
arg n p = record { of = variables.Arg (record { 0 = n }); at = p }

abbrev pub constant : ℕ → Place → NamedPath
constant n p = record { of = variables.Const (record { 0 = n }); at = p }

abbrev pub own : ℕ → NamedCallee
own m = callees.Own (record { 0 = m })

abbrev pub through : (field method : ℕ) → NamedCallee
through f m = callees.Sub (record { 0 = f }) (record { 0 = m })

abbrev pub u8 : Place → NamedTypeTree
u8 p = base_type (Some (bases.Number W8)) p unrefined

abbrev pub u32 : Place → NamedTypeTree
u32 p = base_type (Some (bases.Number W32)) p unrefined

-- pub status "#not a digit"
-- pri const ZERO : base.u8 = 0x30
-- pub struct counter?(
--     digits : base.u32,
-- )
-- pub func counter.count?(src: base.io_reader) {
--     var c : base.u8
--     while true {
--         c = args.src.read_u8?()
--         if c == 0 {
--             break
--         } else if c < ZERO {
--             return "#not a digit"
--         }
--         this.step!(by: 1)
--     } endwhile
-- }
-- pri func counter.step!(by: base.u8) {
--     this.digits ~mod+= args.by as base.u32
-- }
abbrev pub zero_const : ConstTree
zero_const = record { name = word (codes "ZERO") (at 2 11); of = u8 (at 2 18); value = number 48 (at 2 28) }

abbrev pub counter : NamedStructTree
counter = record { name = word (codes "counter") (at 3 12); public = true; fields = var (codes "digits") (at 4 5) (u32 (at 4 14)) ∷ [] }

-- the body of the loop; `jump` is what is done at a zero byte, and `sig` what is called on the argument
abbrev pub loop_body : BaseSig → NamedStmtTree → NamedCallee → NamedArgTrees → NamedBlockTree
loop_body sig jump callee given =
    more_stmts (assign (to_path (local 0 (at 9 9))) None (at 9 11) (answer (call (callees.Base (arg 0 (at 9 13)) sig) (at 9 22) Coroutine no_arg)) (at 9 9))
    (more_stmts (branch
    (arm (chain ops.Same (path (local 0 (at 10 12))) (link (at 10 14) (number 0 (at 10 17)) no_link) (at 10 14)) (more_stmts jump (close (at 12 9)))
    (arm (chain ops.Less (path (local 0 (at 12 19))) (link (at 12 21) (path (constant 0 (at 12 23))) no_link) (at 12 21)) (more_stmts (back (present (status 10 (at 13 20))) (at 13 13)) (close (at 14 9)))
    no_else)) (at 10 9))
    (more_stmts (do_call (call callee (at 15 14) Impure given) (at 15 9))
    (close (at 16 5))))

abbrev pub one_arg : NamedArgTrees
one_arg = more_args (number 1 (at 15 24)) no_arg

abbrev pub count : BaseSig → NamedStmtTree → NamedCallee → NamedArgTrees → NamedMethodTree
count sig jump callee given =
    record {
      name = word (codes "count") (at 6 18);
      of = 0;
      public = true;
      mark = Coroutine;
      args = var (codes "src") (at 6 25) (base_type (Some bases.Reader) (at 6 30) unrefined) ∷ [];
      locals = var (codes "c") (at 7 9) (u8 (at 7 13)) ∷ [];
      gives = None;
      body = more_stmts (loop (truth true (at 8 11)) no_clause (loop_body sig jump callee given) (at 8 5)) (close (at 17 1));
    }

abbrev pub step : NamedBlockTree → NamedMethodTree
step body =
    record {
      name = word (codes "step") (at 18 18);
      of = 0;
      public = false;
      mark = Impure;
      args = var (codes "by") (at 18 24) (u8 (at 18 28)) ∷ [];
      locals = [];
      gives = None;
      body = body;
    }

abbrev pub step_body : NamedBlockTree
step_body = more_stmts (assign (to_path (field 0 (at 19 5))) (Some ops.ModAdd) (at 19 17) (convert (path (arg 0 (at 19 24))) (u32 (at 19 35)) (at 19 32)) (at 19 5)) (close (at 20 1))

abbrev pub package_with : List NamedStructTree → NamedMethodTree → NamedMethodTree → (order struct_order : List ℕ) → NamedPackageTree
package_with structs first second order struct_order =
    record { package_name = codes "demo"; consts = zero_const ∷ []; statuses = word (codes "#not a digit") (at 1 12) ∷ []; structs = structs; methods = first ∷ second ∷ []; order = order; struct_order = struct_order }

abbrev pub breaking : NamedStmtTree
breaking = leave 0 (at 11 13)

abbrev pub counting : NamedPackageTree
counting = package_with (counter ∷ []) (count (Read ReadU8) breaking (own 1) one_arg) (step step_body) (1 ∷ 0 ∷ []) (0 ∷ [])

-- The same with a jump out of two loops, where one stands round it.
abbrev pub leaving_two : NamedPackageTree
leaving_two = package_with (counter ∷ []) (count (Read ReadU8) (leave 1 (at 11 13)) (own 1) one_arg) (step step_body) (1 ∷ 0 ∷ []) (0 ∷ [])

-- With a method of a writer on a reader.
abbrev pub wrong_kind : NamedPackageTree
wrong_kind = package_with (counter ∷ []) (count WriterLength breaking (own 1) one_arg) (step step_body) (1 ∷ 0 ∷ []) (0 ∷ [])

-- Without the argument that the method wants.
abbrev pub no_argument : NamedPackageTree
no_argument = package_with (counter ∷ []) (count (Read ReadU8) breaking (own 1) no_arg) (step step_body) (1 ∷ 0 ∷ []) (0 ∷ [])

-- With a call through a field that is no struct.
abbrev pub no_struct : NamedPackageTree
no_struct = package_with (counter ∷ []) (count (Read ReadU8) breaking (through 0 1) one_arg) (step step_body) (1 ∷ 0 ∷ []) (0 ∷ [])

-- With a local that the method doesn't have.
abbrev pub no_local : NamedPackageTree
no_local = package_with (counter ∷ []) (count (Read ReadU8) breaking (own 1) (more_args (path (local 1 (at 15 24))) no_arg)) (step step_body) (1 ∷ 0 ∷ []) (0 ∷ [])

-- In an order in which the caller comes first.
abbrev pub caller_first : NamedPackageTree
caller_first = package_with (counter ∷ []) (count (Read ReadU8) breaking (own 1) one_arg) (step step_body) (0 ∷ 1 ∷ []) (0 ∷ [])

-- With a method that calls itself, for which there is no order.
abbrev pub cycle : NamedPackageTree
cycle = package_with (counter ∷ []) (count (Read ReadU8) breaking (own 1) one_arg) (step (more_stmts (do_call (call (own 1) (at 19 10) Impure one_arg) (at 19 5)) (close (at 20 1)))) (1 ∷ 0 ∷ []) (0 ∷ [])

-- With a struct that holds itself.
abbrev pub holding_itself : NamedPackageTree
holding_itself =
    package_with (record { name = word (codes "counter") (at 3 12); public = true; fields = var (codes "digits") (at 4 5) (u32 (at 4 14)) ∷ var (codes "inner") (at 5 5) (struct_type 0 (at 5 13)) ∷ [] } ∷ [])
    (count (Read ReadU8) breaking (own 1) one_arg) (step step_body) (1 ∷ 0 ∷ []) (0 ∷ [])

-- In an order without the struct.
abbrev pub struct_left_out : NamedPackageTree
struct_left_out = package_with (counter ∷ []) (count (Read ReadU8) breaking (own 1) one_arg) (step step_body) (1 ∷ 0 ∷ []) []
