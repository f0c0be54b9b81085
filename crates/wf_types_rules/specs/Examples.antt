-- Small resolved packages that keep the rules of types and effects, and packages next to them that break one.
use Rattle.std.specs.Prelude.{ℕ, true, false, Option, None, Some, List, [], ◌∷◌, codes}
use Rattle.wf_text.specs.declared.place.Place.{Place}
use Rattle.wf_base.specs.declared.marks.Mark.{Mark}
use Rattle.wf_base.specs.declared.marks.Mark.TheVariants.{Pure, Coroutine}
use Rattle.wf_base.specs.declared.widths.Width.TheVariants.{W8, W16, W32}
use Rattle.wf_base.specs.declared.base_methods.ReadForm.TheVariants.{ReadU8}
use Rattle.wf_base.specs.declared.base_methods.BaseSig.TheVariants.{Read}
use Rattle.wf_ast.specs.declared.operators.Op.{Op}
use Rattle.wf_named.specs.declared.nodes.BaseType.{BaseType}
use Rattle.wf_named.specs.declared.nodes.BaseType.TheVariants as bases
use Rattle.wf_named.specs.declared.nodes.NamedCallee.TheVariants as callees
use Rattle.wf_named.specs.NamedTree.{NamedExprTree, number, path, chain, NamedPartTree, present, no_link, link, NamedArgTrees, no_arg, NamedCallTree, call, NamedTypeTree, array_of, base_type, unrefined, refined, NamedTargetTree, to_path, no_clause, NamedStmtTree, assign, loop, back, NamedBlockTree, close, more_stmts, VarTree, NamedMethodTree, NamedPackageTree}
use Rattle.wf_named.specs.Examples.{at, word, var, local, arg, own}

-- A column of the one line that the examples look at.
abbrev pub here : ℕ → Place
here col = at 9 col

abbrev pub base : BaseType → NamedTypeTree
base of = base_type (Some of) (here 2) unrefined

-- One constant `pri const NAME : TYPE = VALUE` and nothing more.
abbrev pub constant_package : NamedTypeTree → NamedExprTree → NamedPackageTree
constant_package of value =
    record { package_name = codes "demo"; consts = record { name = word (codes "X") (at 1 11); of = of; value = value } ∷ []; statuses = []; structs = []; methods = []; order = []; struct_order = [] }

abbrev pub byte_type : NamedTypeTree
byte_type = base_type (Some (bases.Number W8)) (at 1 15) unrefined

abbrev pub refined_byte : NamedPartTree → (high : ℕ) → NamedTypeTree
refined_byte low high = base_type (Some (bases.Number W8)) (at 1 15) (refined low (number high (at 1 28)))

-- pub status "#bad", pub status "$wait", and a struct with a number, a flag and an array, and three methods: `f`, which is
-- looked at, `g(k: base.u32) base.u32` and the coroutine `h`.
abbrev pub variables : List VarTree
variables =
    var (codes "n") (at 3 1) (base (bases.Number W32)) ∷ var (codes "b") (at 3 2) (base bases.Flag) ∷ var (codes "cells") (at 3 3) (array_of (number 4 (at 3 9)) (at 3 4) (base (bases.Number W8))) ∷ []

abbrev pub method_g : NamedMethodTree
method_g =
    record {
      name = word (codes "g") (at 4 1);
      of = 0;
      public = false;
      mark = Pure;
      args = var (codes "k") (at 4 3) (base (bases.Number W32)) ∷ [];
      locals = [];
      gives = Some (base (bases.Number W32));
      body = more_stmts (back (present (path (arg 0 (at 4 20)))) (at 4 10)) (close (at 4 30));
    }

abbrev pub method_h : NamedMethodTree
method_h = record { name = word (codes "h") (at 5 1); of = 0; public = false; mark = Coroutine; args = []; locals = []; gives = None; body = close (at 5 30) }

-- fn f, with the argument `a : base.u8` and a reader, and the locals `x : base.u8`, `y : base.u16`, `st : base.status` and
-- `c : base.bool`.
abbrev pub method_f : Mark → Option NamedTypeTree → NamedBlockTree → NamedMethodTree
method_f mark gives body =
    record {
      name = word (codes "f") (at 6 1);
      of = 0;
      public = true;
      mark = mark;
      args = var (codes "a") (at 6 2) (base (bases.Number W8)) ∷ var (codes "src") (at 6 3) (base bases.Reader) ∷ [];
      locals = var (codes "x") (at 7 1) (base (bases.Number W8)) ∷ var (codes "y") (at 7 2) (base (bases.Number W16)) ∷ var (codes "st") (at 7 3) (base bases.Status) ∷ var (codes "c") (at 7 4) (base bases.Flag) ∷ [];
      gives = gives;
      body = body;
    }

abbrev pub package_doing : NamedMethodTree → NamedPackageTree
package_doing f =
    record {
      package_name = codes "demo";
      consts = [];
      statuses = word (codes "#bad") (at 1 12) ∷ word (codes "$wait") (at 2 12) ∷ [];
      structs = record { name = word (codes "s") (at 3 12); public = true; fields = variables } ∷ [];
      methods = f ∷ method_g ∷ method_h ∷ [];
      order = 1 ∷ 2 ∷ 0 ∷ [];
      struct_order = 0 ∷ [];
    }

-- A method without a result that does this alone.
abbrev pub doing : Mark → NamedStmtTree → NamedPackageTree
doing mark st = package_doing (method_f mark None (more_stmts st (close (at 10 1))))

-- And one with a result.
abbrev pub giving : NamedBlockTree → NamedPackageTree
giving body = package_doing (method_f Pure (Some (base (bases.Number W8))) body)

abbrev pub x_path : NamedTargetTree
x_path = to_path (local 0 (here 5))

abbrev pub assigning : NamedTargetTree → NamedExprTree → NamedStmtTree
assigning t e = assign t None (here 8) e (here 5)

abbrev pub pair : Op → (a b : NamedExprTree) → NamedExprTree
pair op a b = chain op a (link (here 30) b no_link) (here 30)

abbrev pub x_at : ℕ → NamedExprTree
x_at col = path (local 0 (here col))

abbrev pub calls_own : (method : ℕ) → Mark → NamedArgTrees → NamedCallTree
calls_own m mark args = call (own m) (here 22) mark args

abbrev pub reads : Mark → NamedCallTree
reads mark = call (callees.Base (arg 1 (here 20)) (Read ReadU8)) (here 22) mark no_arg

abbrev pub looping : NamedExprTree → NamedBlockTree → NamedStmtTree
looping e body = loop e no_clause body (here 5)
