-- Small packages whose uses of names keep the rules, and packages next to them that break one.
use Prim.Native.String.{String}
use Rattle.std.specs.Prelude.{ℕ, ◌+◌, true, false, None, Some, Option, List, [], ◌∷◌, codes}
use Rattle.std.specs.List.{position_or_len}
use Rattle.std.specs.Str.{bytes_eq}
use Rattle.wf_text.specs.declared.place.Place.{Place}
use Rattle.wf_text.specs.declared.rules.Rule.{Rule}
use Rattle.wf_text.specs.declared.rules.Refusal.{Refusal}
use Rattle.wf_ast.specs.declared.operators.Op.TheVariants as ops
use Rattle.wf_ast.specs.declared.parsed.Clause.TheVariants as clauses
use Rattle.wf_ast.specs.declared.parsed.Name.{Name}
use Rattle.wf_ast.specs.declared.parsed.Path.{Path}
use Rattle.wf_ast.specs.declared.parsed.Receiver.{Receiver}
use Rattle.wf_ast.specs.declared.parsed.Receiver.TheVariants as receivers
use Rattle.wf_ast.specs.declared.parsed.Root.TheVariants as roots
use Rattle.wf_ast.specs.declared.parsed.WrittenMark.TheVariants as marks
use Rattle.wf_ast.specs.ParsedTree as tree
use Rattle.wf_ast.specs.ParsedTree.{ExprTree, GivenTrees, CallTree, TypeTree, StmtTree, BlockTree}
use Rattle.wf_names_rules.specs.Declarations.{Variable, Constant, Method, Declared, locals_of}

-- line and column in the one file
abbrev pub at : (line col : ℕ) → Place
at l c = record { file = 0; line = l; col = c }

-- A column of the one line that the examples look at, where `f` does something, or where a constant, a field or an
-- owner is written that differs from one example to the next.
abbrev pub here : ℕ → Place
here col = at 9 col

abbrev pub refused : Rule → Place → Option Refusal
refused rule p = Some (record { rule = rule; at = p })

-- The texts of the package; those of `gone` are declared nowhere.
abbrev pub texts : List (List ℕ)
texts =
    codes "s" ∷ codes "p" ∷ codes "n" ∷ codes "x" ∷ codes "f" ∷ codes "g" ∷ codes "h" ∷ codes "open" ∷ codes "shut"
    ∷ codes "a" ∷ codes "b" ∷ codes "k" ∷ codes "v" ∷ codes "in" ∷ codes "src" ∷ codes "dst" ∷ codes "part"
    ∷ codes "K" ∷ codes "L" ∷ codes "u32" ∷ codes "io_reader" ∷ codes "io_writer" ∷ codes "skip_u32" ∷ codes "length"
    ∷ codes "#bad" ∷ codes "$short read" ∷ codes "gone" ∷ codes "#gone" ∷ []

abbrev pub name : String → Place → Name
name text p = record { text = record { 0 = position_or_len (bytes_eq (codes text)) texts }; at = p }

-- NAME, this.NAME and args.NAME, from a column on.
abbrev pub bare : String → (col : ℕ) → Path
bare text col = record { root = roots.Bare; name = name text (here col); at = here col }

abbrev pub field : String → (col : ℕ) → Path
field text col = record { root = roots.This; name = name text (here (col + 5)); at = here col }

abbrev pub arg : String → (col : ℕ) → Path
arg text col = record { root = roots.Args; name = name text (here (col + 5)); at = here col }

abbrev pub one : (col : ℕ) → ExprTree
one col = tree.number 1 (here col)

abbrev pub sum : ExprTree → ExprTree → ExprTree
sum a b = tree.chain ops.Add a (tree.link (here 20) b tree.no_link) (here 20)

-- Types: base.NAME without bounds and with ..= HIGH, and a struct.
abbrev pub base : String → Place → TypeTree
base text p = tree.base_type (name text p) p tree.unrefined

abbrev pub up_to : ExprTree → Place → TypeTree
up_to high p = tree.base_type (name "u32" p) p (tree.refined tree.absent high)

abbrev pub struct : String → Place → TypeTree
struct text p = tree.struct_type (name text p)

abbrev pub variable : String → Place → TypeTree → Variable
variable text p of = record { name = name text p; of = of }

abbrev pub constant : String → Place → TypeTree → ExprTree → Constant
constant text p of value = record { name = name text p; of = of; value = value }

-- pri const K : base.u32 = 1
abbrev pub constant_k : (line : ℕ) → Constant
constant_k line = constant "K" (at line 11) (base "u32" (at line 15)) (tree.number 1 (at line 26))

-- pri const L : base.u32 = VALUE
abbrev pub constant_l : (line : ℕ) → ExprTree → Constant
constant_l line value = constant "L" (at line 11) (base "u32" (at line 15)) value

abbrev pub method : (owner : Name) → (name : Name) → List Variable → BlockTree → Method
method owner name args body =
    record { public = true; owner = owner; name = name; args = args; result = tree.gives_nothing; locals = locals_of body; body = body }

-- pub func p.open!(k: base.u32) {}
abbrev pub method_open : Method
method_open = method (name "p" (at 5 10)) (name "open" (at 5 12)) (variable "k" (at 5 18) (base "u32" (at 5 21)) ∷ []) (tree.close (at 5 32))

-- pri func p.shut!(k: base.u32) {}
abbrev pub method_shut : Method
method_shut = record (method (name "p" (at 6 10)) (name "shut" (at 6 12)) (variable "k" (at 6 18) (base "u32" (at 6 21)) ∷ []) (tree.close (at 6 32))) { public = false }

-- pub func s.g!(a: base.u32, b: base.u32) {}
abbrev pub method_g : Method
method_g =
    method (name "s" (at 7 10)) (name "g" (at 7 12))
    (variable "a" (at 7 15) (base "u32" (at 7 18)) ∷ variable "b" (at 7 28) (base "u32" (at 7 31)) ∷ []) (tree.close (at 7 42))

-- pub func OWNER.f?(k: base.u32, in: base.io_reader, src: base.io_reader, dst: base.io_writer, part: p) { .. }
abbrev pub method_f : (owner : Name) → BlockTree → Method
method_f owner body =
    method owner (name "f" (at 8 12))
    (variable "k" (at 8 15) (base "u32" (at 8 18)) ∷ variable "in" (at 8 28) (base "io_reader" (at 8 32))
    ∷ variable "src" (at 8 48) (base "io_reader" (at 8 53)) ∷ variable "dst" (at 8 69) (base "io_writer" (at 8 74)) ∷ variable "part" (at 8 90) (struct "p" (at 8 96)) ∷ []) body

-- pub status "#bad", constants, pub struct s?(FIELDS), pub struct p?(), and the methods; `f` is looked at.
abbrev pub package_with : List Constant → (fields : List Variable) → (owner : Name) → (body : BlockTree) → Declared
package_with constants fields owner body =
    record {
      texts = texts;
      statuses = name "#bad" (at 1 12) ∷ [];
      constants = constants;
      structs = record { name = name "s" (at 3 12); fields = fields } ∷ record { name = name "p" (at 4 12); fields = [] } ∷ [];
      methods = method_open ∷ method_shut ∷ method_g ∷ method_f owner body ∷ [];
    }

-- n : base.u32, x : p
abbrev pub fields_of_s : List Variable
fields_of_s = variable "n" (at 3 15) (base "u32" (at 3 19)) ∷ variable "x" (at 3 29) (struct "p" (at 3 33)) ∷ []

abbrev pub owner_s : Name
owner_s = name "s" (at 8 10)

abbrev pub nothing : BlockTree
nothing = tree.close (at 10 1)

-- The method does this, after `var v : base.u32`.
abbrev pub body_of : StmtTree → BlockTree
body_of st = tree.more_stmts (tree.var (name "v" (at 8 109)) (base "u32" (at 8 113)) (at 8 105)) (tree.more_stmts st nothing)

abbrev pub doing : StmtTree → Declared
doing st = package_with (constant_k 2 ∷ []) fields_of_s owner_s (body_of st)

-- The package has these constants.
abbrev pub with_constants : List Constant → Declared
with_constants constants = package_with constants fields_of_s owner_s nothing

-- The struct has one field more, of this type.
abbrev pub with_field : TypeTree → Declared
with_field of = package_with (constant_k 2 ∷ []) (variable "v" (at 3 37) of ∷ fields_of_s) owner_s nothing

-- The method is declared for the struct of this name.
abbrev pub owned_by : Name → Declared
owned_by owner = package_with (constant_k 2 ∷ []) fields_of_s owner nothing

-- return E, v = E
abbrev pub give : ExprTree → StmtTree
give e = tree.back (tree.present e) (here 5)

abbrev pub set : Path → ExprTree → StmtTree
set target e = tree.assign (tree.to_path target) None (here 7) e (here 5)

abbrev pub set_v : ExprTree → StmtTree
set_v e = set (bare "v" 5) e

abbrev pub given : String → (col : ℕ) → ExprTree → GivenTrees → GivenTrees
given text col value others = tree.more_given (name text (here col)) value others

abbrev pub calls : Receiver → String → (col : ℕ) → GivenTrees → StmtTree
calls on text col args = tree.do_call (tree.call on (name text (here col)) marks.Exclamation args) (here 5)

-- this.NAME!(..) and PATH.NAME!(..)
abbrev pub calls_this : String → GivenTrees → StmtTree
calls_this text args = calls (receivers.This (here 5)) text 10 args

abbrev pub calls_on : Path → String → (col : ℕ) → GivenTrees → StmtTree
calls_on path text col args = calls (receivers.Path path) text col args

-- this.g!(a: E, b: 1)
abbrev pub call_g : ExprTree → CallTree
call_g e = tree.call (receivers.This (here 5)) (name "g" (here 5)) marks.Exclamation (given "a" 5 e (given "b" 40 (one 40) tree.no_given))

abbrev pub always : ExprTree
always = tree.truth true (here 5)

abbrev pub only : StmtTree → BlockTree
only st = tree.more_stmts st nothing

-- A path, or an expression that is one, at each kind of place in a statement where one may stand.
abbrev pub statements_with : Path → List StmtTree
statements_with p =
    set_v (tree.path p)
    ∷ set_v (tree.negation (tree.path p) (here 8))
    ∷ set_v (sum (tree.path p) (one 40))
    ∷ set_v (sum (one 40) (tree.path p))
    ∷ set_v (tree.index p (one 40) (here 40))
    ∷ set_v (tree.index (field "n" 40) (tree.path p) (here 40))
    ∷ set_v (tree.slice p tree.absent tree.absent (here 40))
    ∷ set_v (tree.slice (field "n" 40) (tree.present (tree.path p)) tree.absent (here 40))
    ∷ set_v (tree.slice (field "n" 40) tree.absent (tree.present (tree.path p)) (here 40))
    ∷ set_v (tree.answer (call_g (tree.path p)))
    ∷ set_v (tree.convert (tree.path p) (base "u32" (here 40)) (here 40))
    ∷ set_v (tree.convert (one 40) (up_to (tree.path p) (here 40)) (here 40))
    ∷ set_v (tree.convert (one 40) (tree.base_type (name "u32" (here 40)) (here 40) (tree.refined (tree.present (tree.path p)) (one 40))) (here 40))
    ∷ set_v (tree.convert (one 40) (tree.status_type (here 40) (tree.refined tree.absent (tree.path p))) (here 40))
    ∷ set p (one 40)
    ∷ tree.assign (tree.to_element p (one 40) (here 40)) None (here 40) (one 40) (here 5)
    ∷ tree.assign (tree.to_element (field "n" 40) (tree.path p) (here 40)) None (here 40) (one 40) (here 5)
    ∷ tree.keep (tree.to_path p) (call_g (one 40)) (here 5)
    ∷ tree.keep (tree.to_path (bare "v" 40)) (call_g (tree.path p)) (here 5)
    ∷ tree.do_call (call_g (tree.path p)) (here 5)
    ∷ tree.branch (tree.arm (tree.path p) nothing tree.no_else) (here 5)
    ∷ tree.branch (tree.arm always (only (give (tree.path p))) tree.no_else) (here 5)
    ∷ tree.branch (tree.arm always nothing (tree.arm (tree.path p) nothing tree.no_else)) (here 5)
    ∷ tree.branch (tree.arm always nothing (tree.otherwise (only (give (tree.path p))))) (here 5)
    ∷ tree.loop None (tree.path p) tree.no_clause nothing (here 5)
    ∷ tree.loop None always (tree.more_clauses clauses.Inv (tree.path p) (here 40) tree.no_clause) nothing (here 5)
    ∷ tree.loop None always tree.no_clause (only (give (tree.path p))) (here 5)
    ∷ give (tree.path p)
    ∷ tree.suspend (tree.path p) (here 5)
    ∷ tree.claim (tree.path p) tree.by_itself (here 5)
    ∷ tree.claim always (tree.via (name "n" (here 40)) (given "a" 40 (tree.path p) tree.no_given)) (here 5)
    ∷ tree.var (name "n" (here 5)) (tree.array_of (tree.path p) (here 40) (base "u32" (here 40))) (here 5)
    ∷ []

-- The package has one method more.
abbrev pub with_method : Method → Declared
with_method m = record (doing (give (one 5))) { methods = m ∷ [] }

-- A type at each kind of place where one may stand.
abbrev pub packages_with : TypeTree → List Declared
packages_with of =
    with_constants (constant "L" (here 5) of (one 40) ∷ [])
    ∷ with_field of
    ∷ with_field (tree.slice_of (here 5) of)
    ∷ with_field (tree.array_of (one 5) (here 5) of)
    ∷ doing (tree.var (name "n" (here 5)) of (here 5))
    ∷ doing (set_v (tree.convert (one 40) of (here 40)))
    ∷ with_method (method owner_s (name "h" (at 8 12)) (variable "a" (here 5) of ∷ []) nothing)
    ∷ with_method (record (method owner_s (name "h" (at 8 12)) [] nothing) { result = tree.gives of })
    ∷ []
