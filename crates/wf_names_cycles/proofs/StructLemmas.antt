-- The structs of a package and the names on cycles of their graph.
use Rattle.std.proofs.Common.{◌≡◌, ◌⊎◌, ℕ, zero, suc, ◌+◌, ◌<◌, ◌≤◌, Bool, true, false, cond, ◌||◌, List, [], ◌∷◌, length, Option, Some, slice_get, refl, sym, ap, ◌∙◌, inl, inr, arith}
use Rattle.std.specs.List.{position_from}
use Rattle.wf_text.specs.declared.rules.Refusal.{Refusal}
use Rattle.wf_text.specs.declared.rules.Rule.TheVariants.{N4}
use Rattle.wf_ast.specs.declared.parsed.DeclNode.{DeclNode}
use Rattle.wf_ast.specs.declared.parsed.ExprNode.{ExprNode}
use Rattle.wf_ast.specs.declared.parsed.Name.{Name}
use Rattle.wf_ast.specs.declared.parsed.StmtNode.{StmtNode}
use Rattle.wf_ast.specs.ParsedTree as tree
use Rattle.wf_ast.specs.ParsedTree.{ExprTree, StmtTree, DeclTree}
use Rattle.wf_ast.specs.ParsedTrees.{expr_trees, stmt_trees, decl_made, decls_made, decl_trees}
use Rattle.wf_names_rules.specs.Declarations.{Structure, Declared, structs_of}
use Rattle.graphs.specs.Graphs.{goes}
use Rattle.wf_names_rules.specs.Found.{IsOnCycle}
use Rattle.wf_names_rules.specs.Sizes.{holds_struct}
use Rattle.wf_names_rules.specs.StructRows.{AreStructRows}
use Rattle.wf_names_cycles.specs.CyclesFound.{DecidesWith, HoldsItself, struct_names}
use Rattle.wf_names_cycles.proofs.CycleLemmas.{DecidesWith-map, path-map}

-- A place in a list, and one of two that hold.
pub position-below : {X : Type 0} (test : X → Bool) (k : ℕ) (xs : List X) (a : ℕ) → position_from test k xs ≡ Some a → a < k + length xs
position-below test k [] a e = absurd (cc e)
position-below test k (x ∷ xs) a e = by_test (test x) (λ e. position-below test (k + 1) xs a e) e
  where
    by_test : (b : Bool) → (position_from test (k + 1) xs ≡ Some a → a < k + 1 + length xs) → cond b (Some k) (position_from test (k + 1) xs) ≡ Some a
        → a < k + suc (length xs)
    by_test true more e = let same : k ≡ a = cc e in omega (arith, same)
    by_test false more e = omega (arith, more e)

pub either : (x y : Bool) → (x || y) ≡ true → (x ≡ true) ⊎ (y ≡ true)
either true y h = inl refl
either false y h = inr h

-- How many there are.
names-long : (ss : List Structure) → length (struct_names ss) ≡ length ss
names-long [] = refl
names-long (s ∷ ss) = ap suc (names-long ss)

structs-few : (es : List ExprTree) (ts : List StmtTree) (nodes : List DeclNode) → length (structs_of (decls_made es ts nodes)) ≤ length nodes
structs-few es ts [] = omega arith
structs-few es ts (n ∷ ns) = one_more (decl_made es ts n.public n.decl n.at) (structs-few es ts ns)
  where
    one_more : (d : DeclTree) → length (structs_of (decls_made es ts ns)) ≤ length ns → length (structs_of (d ∷ decls_made es ts ns)) ≤ suc (length ns)
    one_more (tree.status public text at) h = omega (arith, h)
    one_more (tree.constant public name of value at) h = omega (arith, h)
    one_more (tree.structure public name mark fields at) h = omega (arith, h)
    one_more (tree.method public owner name mark args result body at) h = omega (arith, h)

-- A package has no more structs than declarations.
module _ (exprs : List ExprNode) (stmts : List StmtNode) (nodes : List DeclNode) where
  pub package-structs-few : (n : ℕ) → length nodes < n → length (structs_of (decl_trees exprs stmts nodes)) < n
  unfolding decl_trees
  package-structs-few n h = omega (arith, h, structs-few (expr_trees exprs) (stmt_trees exprs stmts) nodes)

structure-at : (ss : List Structure) (i : ℕ) (n : Name) → slice_get (struct_names ss) i ≡ Some n → (s : Structure) × ((slice_get ss i ≡ Some s) × (s.name ≡ n))
structure-at [] i n e = absurd (cc e)
structure-at (s ∷ ss) zero n e = (s, (refl, (let same : s.name ≡ n = cc e in same)))
structure-at (s ∷ ss) (suc i) n e = structure-at ss i n e

name-at : (ss : List Structure) (i : ℕ) (s : Structure) → slice_get ss i ≡ Some s → slice_get (struct_names ss) i ≡ Some s.name
name-at [] i s e = absurd (cc e)
name-at (t ∷ ss) zero s e = let same : t ≡ s = cc e in ap (λ (x : Structure). Some x.name) same
name-at (t ∷ ss) (suc i) s e = name-at ss i s e

module _ (d : Declared) (names : List Name) (rows : List (List ℕ)) (named : names ≡ struct_names d.structs) (made : AreStructRows d rows) where
  pub structs-long : length names ≡ length rows
  structs-long = ap length named ∙ names-long d.structs ∙ sym made.len

  holds-from : (s : Refusal) → IsOnCycle N4 rows names s → HoldsItself d s
  holds-from s r =
      let at = structure-at d.structs r.number r.name (ap (λ ns. slice_get ns r.number) (sym named) ∙ r.is) in record {
        number = r.number;
        structure = at.0;
        is = at.1.0;
        path = path-map (goes rows) (holds_struct d) made.same r.number r.number r.path;
        refused = r.refused ∙ ap (λ (n : Name). record { rule = N4; at = n.at }) (sym at.1.1);
      }

  holds-to : (s : Refusal) → HoldsItself d s → IsOnCycle N4 rows names s
  holds-to s h = record {
    number = h.number;
    name = h.structure.name;
    is = ap (λ ns. slice_get ns h.number) named ∙ name-at d.structs h.number h.structure h.is;
    path = path-map (holds_struct d) (goes rows) (λ a b. sym (made.same a b)) h.number h.number h.path;
    refused = h.refused;
  }

  pub structs-decided : (found all : Option Refusal) → DecidesWith (IsOnCycle N4 rows names) found all → DecidesWith (HoldsItself d) found all
  structs-decided found all h = DecidesWith-map (IsOnCycle N4 rows names) (HoldsItself d) found all holds-from holds-to h
