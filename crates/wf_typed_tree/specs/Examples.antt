-- Resolved packages for the worked examples, and the typed tree of a whole one.
use Rattle.std.specs.Prelude.{ℕ, true, false, Option, None, Some, List, [], ◌∷◌, ◌++◌, codes}
use Rattle.wf_base.specs.declared.marks.Mark.{Mark}
use Rattle.wf_base.specs.declared.marks.Mark.TheVariants.{Pure, Impure, Coroutine}
use Rattle.wf_base.specs.declared.widths.Width.TheVariants.{W8, W16, W32}
use Rattle.wf_base.specs.declared.base_methods.BaseSig.{BaseSig}
use Rattle.wf_base.specs.declared.base_methods.ReadForm.TheVariants.{ReadU8}
use Rattle.wf_ast.specs.BaseStatuses.{base_statuses}
use Rattle.wf_ast.specs.declared.operators.Op.{Op}
use Rattle.wf_ast.specs.declared.types.Ty.TheVariants as types
use Rattle.wf_ast.specs.TypedTree.{NumType, NumTree, Block, numeric, state, plain, choose, end, await, take_number, give_back, break_from, invoke, own, to_number, to_nothing, mod_plus, compare, equal, less, read}
use Rattle.wf_ast.specs.TypedTree as typed
use Rattle.wf_ast.specs.TypedPackage.{MethodTree, PackageTree}
use Rattle.wf_named.specs.declared.nodes.BaseType.TheVariants as bases
use Rattle.wf_named.specs.declared.nodes.NamedCallee.TheVariants as callees
use Rattle.wf_named.specs.declared.nodes.NamedPath.{NamedPath}
use Rattle.wf_named.specs.NamedTree.{NamedExprTree, number, path, chain, present, no_link, link, NamedArgTrees, no_arg, more_args, NamedCallTree, call, NamedTypeTree, slice_of, array_of, struct_type, to_path, NamedStmtTree, assign, back, close, more_stmts, ConstTree, NamedStructTree, NamedMethodTree, NamedPackageTree, NamedBlockTree}
use Rattle.wf_named.specs.Examples.{at, word, var, local, field, arg}
use Rattle.wf_types_rules.specs.Examples.{here, base}
use Rattle.wf_typed_tree.specs.ElaboratedStmts.{site}
use Rattle.wf_typed_tree.specs.ElaboratedPackage.{typed_package}

-- The types of the numbers of 8, 16 and 32 bits.
abbrev pub byte : NumType
byte = record { bits = 8; low = 0; high = 255 }

abbrev pub half : NumType
half = record { bits = 16; low = 0; high = 65535 }

abbrev pub word32 : NumType
word32 = record { bits = 32; low = 0; high = 4294967295 }

-- The typed tree of the package `counting`, whose text stands with it.
abbrev pub byte_c : (line col : ℕ) → NumTree
byte_c line col = read (at line col) byte (typed.local 0)

abbrev pub counted_body : Block
counted_body =
    plain (site 0 (at 9 9)) (await (at 9 22) (to_number (at 9 9) byte (typed.local 0)) 0 (take_number ReadU8))
    (choose (site 3 (at 10 9)) false (compare (at 10 14) (at 10 14) (byte_c 10 12) equal (typed.number (at 10 17) 0))
    (plain (site 1 (at 11 13)) (break_from 5) end)
    (choose (site 3 (at 10 9)) true (compare (at 12 21) (at 12 21) (byte_c 12 19) less (typed.number (at 12 23) 48))
    (plain (site 2 (at 13 13)) (give_back (Some (state (typed.status (at 13 20) 10)))) end)
    end
    end)
    (plain (site 4 (at 15 9)) (invoke (at 15 14) to_nothing false Impure (own 1) (numeric (typed.number (at 15 24) 1) ∷ []))
    end))

abbrev pub counted : MethodTree
counted =
    record {
      name = codes "count";
      of = 0;
      public = true;
      mark = Coroutine;
      args = record { name = codes "src"; ty = types.Reader } ∷ [];
      locals = record { name = codes "c"; ty = types.Num W8 0 255 } ∷ [];
      gives = None;
      body = typed.loop (site 5 (at 8 5)) (record { cond = typed.truth (at 8 11) true; clauses = []; is_left = true; close = at 16 5 }) counted_body end;
    }

abbrev pub stepped : MethodTree
stepped =
    record {
      name = codes "step";
      of = 0;
      public = false;
      mark = Impure;
      args = record { name = codes "by"; ty = types.Num W8 0 255 } ∷ [];
      locals = [];
      gives = None;
      body =
          plain (site 6 (at 19 5))
          (typed.assign (to_number (at 19 5) word32 (typed.field 0)) (Some mod_plus)
          (numeric (typed.link (at 19 17) (at 19 17) mod_plus 32 false (read (at 19 5) word32 (typed.field 0)) (typed.convert (at 19 32) (at 19 32) 32 (read (at 19 24) byte (typed.arg 0))))))
          end;
    }

abbrev pub typed_counting : PackageTree
typed_counting =
    record {
      package_name = codes "demo";
      statuses = base_statuses ++ codes "#demo: not a digit" ∷ [];
      structs = record { name = codes "counter"; public = true; fields = record { name = codes "digits"; ty = types.Num W32 0 4294967295 } ∷ [] } ∷ [];
      methods = counted ∷ stepped ∷ [];
      order = 1 ∷ 0 ∷ [];
      struct_order = 0 ∷ [];
    }

-- A package for single statements. It has the statuses `#bad` and `$wait`, which are 10 and 11, the constant
-- `K : base.u8 = 48`, the structs
--     pri struct s(n : base.u32, b : base.bool, cells : array[4] base.u8, inner : t)
--     pri struct t(m : base.u8)
-- and the methods `s.f`, which holds the statement, `s.g(k : base.u32) base.u32`, the coroutine `s.h?()` and
-- `t.bump!(by : base.u8)`.
abbrev pub k_const : ConstTree
k_const = record { name = word (codes "K") (at 1 11); of = base (bases.Number W8); value = number 48 (at 1 25) }

abbrev pub struct_s : NamedStructTree
struct_s =
    record {
      name = word (codes "s") (at 3 12);
      public = false;
      fields = var (codes "n") (at 3 1) (base (bases.Number W32)) ∷ var (codes "b") (at 3 2) (base bases.Flag)
          ∷ var (codes "cells") (at 3 3) (array_of (number 4 (at 3 9)) (at 3 4) (base (bases.Number W8))) ∷ var (codes "inner") (at 3 5) (struct_type 1 (at 3 6)) ∷ [];
    }

abbrev pub struct_t : NamedStructTree
struct_t = record { name = word (codes "t") (at 4 12); public = false; fields = var (codes "m") (at 4 1) (base (bases.Number W8)) ∷ [] }

-- s.f(a : base.u8, src : base.io_reader, dst : base.io_writer, data : slice base.u8), with the locals
-- x : base.u8, y : base.u16, st : base.status, c : base.bool and part : slice base.u8
abbrev pub byte_slice : NamedTypeTree
byte_slice = slice_of (here 1) (base (bases.Number W8))

abbrev pub method_f : Mark → Option NamedTypeTree → NamedBlockTree → NamedMethodTree
method_f mark gives body =
    record {
      name = word (codes "f") (at 6 1);
      of = 0;
      public = true;
      mark = mark;
      args = var (codes "a") (at 6 2) (base (bases.Number W8)) ∷ var (codes "src") (at 6 3) (base bases.Reader)
          ∷ var (codes "dst") (at 6 4) (base bases.Writer) ∷ var (codes "data") (at 6 5) byte_slice ∷ [];
      locals = var (codes "x") (at 7 1) (base (bases.Number W8)) ∷ var (codes "y") (at 7 2) (base (bases.Number W16))
          ∷ var (codes "st") (at 7 3) (base bases.Status) ∷ var (codes "c") (at 7 4) (base bases.Flag) ∷ var (codes "part") (at 7 5) byte_slice ∷ [];
      gives = gives;
      body = body;
    }

abbrev pub method_g : NamedMethodTree
method_g =
    record {
      name = word (codes "g") (at 14 1);
      of = 0;
      public = false;
      mark = Pure;
      args = var (codes "k") (at 14 3) (base (bases.Number W32)) ∷ [];
      locals = [];
      gives = Some (base (bases.Number W32));
      body = more_stmts (back (present (path (arg 0 (at 14 20)))) (at 14 10)) (close (at 14 30));
    }

abbrev pub method_h : NamedMethodTree
method_h = record { name = word (codes "h") (at 15 1); of = 0; public = false; mark = Coroutine; args = []; locals = []; gives = None; body = close (at 15 30) }

abbrev pub method_bump : NamedMethodTree
method_bump =
    record {
      name = word (codes "bump") (at 16 1);
      of = 1;
      public = true;
      mark = Impure;
      args = var (codes "by") (at 16 3) (base (bases.Number W8)) ∷ [];
      locals = [];
      gives = None;
      body = more_stmts (assign (to_path (field 0 (at 16 10))) None (at 16 12) (path (arg 0 (at 16 20))) (at 16 10)) (close (at 16 30));
    }

abbrev pub with_f : NamedMethodTree → NamedPackageTree
with_f f =
    record {
      package_name = codes "demo";
      consts = k_const ∷ [];
      statuses = word (codes "#bad") (at 1 12) ∷ word (codes "$wait") (at 2 12) ∷ [];
      structs = struct_s ∷ struct_t ∷ [];
      methods = f ∷ method_g ∷ method_h ∷ method_bump ∷ [];
      order = 1 ∷ 2 ∷ 3 ∷ 0 ∷ [];
      struct_order = 1 ∷ 0 ∷ [];
    }

-- A method with this mark and no result that does this alone.
abbrev pub doing : Mark → NamedStmtTree → NamedPackageTree
doing mark st = with_f (method_f mark None (more_stmts st (close (at 10 1))))

-- The typed body of the first method.
abbrev pub first_body : List MethodTree → Block
first_body [] = end
first_body (m ∷ ms) = m.body

abbrev pub body_typed : NamedPackageTree → Block
body_typed p = first_body (typed_package p).methods

-- What stands at a column of the one line that the examples look at. Locals:
abbrev pub x_at : ℕ → NamedExprTree
x_at col = path (local 0 (here col))

abbrev pub c_at : ℕ → NamedExprTree
c_at col = path (local 3 (here col))

abbrev pub st_at : ℕ → NamedExprTree
st_at col = path (local 2 (here col))

-- arguments:
abbrev pub a_at : ℕ → NamedExprTree
a_at col = path (arg 0 (here col))

abbrev pub literal : (value col : ℕ) → NamedExprTree
literal value col = number value (here col)

abbrev pub three : Op → (a b c : NamedExprTree) → NamedExprTree
three op a b c = chain op a (link (here 12) b (link (here 16) c no_link)) (here 12)

-- `x`, `a` as numbers, typed
abbrev pub typed_x : ℕ → NumTree
typed_x col = read (here col) byte (typed.local 0)

abbrev pub typed_a : ℕ → NumTree
typed_a col = read (here col) byte (typed.arg 0)

abbrev pub typed_number : (value col : ℕ) → NumTree
typed_number value col = typed.number (here col) value

-- An assignment to a local or a field, and what it makes as the one statement of a body.
abbrev pub assigning : NamedPath → NamedExprTree → NamedStmtTree
assigning p e = assign (to_path p) None (here 8) e (here 5)

-- A call of a base method on an argument, as an expression's part and as a statement.
abbrev pub base_on : NamedPath → BaseSig → Mark → NamedArgTrees → NamedCallTree
base_on p sig mark args = call (callees.Base p sig) (here 22) mark args

abbrev pub one : NamedExprTree → NamedArgTrees
one e = more_args e no_arg

abbrev pub alone : typed.Simple → Block
alone it = plain (site 0 (here 5)) it end

abbrev pub to_x : typed.Target
to_x = to_number (here 5) byte (typed.local 0)
