-- Skips and writes that don't suspend.
use Rattle.std.proofs.Common.{◌≡◌, ℕ, Bool, true, false, List, [], ◌∷◌, Option, Some, None, Result, Err, refl, sym, ap, subst}
use Rattle.std.specs.Prelude.{if◌then◌else◌, option_map}
use Rattle.std.proofs.lemmas.Bool.{and_parts}
use Rattle.wf_text.specs.declared.place.Place.{Place}
use Rattle.wf_text.specs.declared.rules.Rule.TheVariants.{B8}
use Rattle.wf_text.specs.declared.rules.Refusal.{Refusal}
use Rattle.wf_base.specs.declared.widths.Width.{Width}
use Rattle.wf_ast.specs.declared.numbers.ExprId.{ExprId}
use Rattle.wf_ast.specs.declared.types.Ty.{Ty}
use Rattle.wf_ast.specs.declared.types.Ty.TheVariants as types
use Rattle.wf_ast.specs.declared.typed_nodes.TypedNodes.{TypedNodes}
use Rattle.wf_ast.specs.StatementOrder.{stands_before}
use Rattle.wf_ast.specs.TypedTree.{NumType, NumTree, number, asked, at_least, reader_length, writer_length, ValueTree, numeric, io}
use Rattle.wf_ast.specs.TypedTrees.{no_place, io_in, tree_of, type_of_node, place_of_node}
use Rattle.wf_ast.specs.TypedInvariant.{is_expr, is_tree_of}
use Rattle.wf_ast.specs.NodeKinds.{is_number_at, node_number}
use Rattle.wf_facts_exprs.specs.declared.facts.Side.TheVariants as sides
use Rattle.wf_facts_exprs.specs.Claims.{Claim, single, length_in, side_in}
use Rattle.wf_facts_exprs.specs.Given.{gives_sides}
use Rattle.wf_facts_exprs.specs.Demands.{or_else, num_refusal, unless_refused}
use Rattle.wf_facts_exprs.proofs.ShapeLemmas.{asked_alike}
use Rattle.wf_facts_exprs.proofs.JudgeLemmas.{number_alike, sides-alike}
use Rattle.wf_bounds_stmts.specs.Requirements.{all_handed, handed_refusal, lies_refusal, place_of, Placed, placed, written_first}
use Rattle.wf_facts.specs.IndexedFacts.{FactList}
use Rattle.wf_bounds_stmts.specs.Calls.{all_of}
use Rattle.wf_bounds_stmts.specs.Outcomes.{Settles}
use Rattle.wf_bounds_stmts.proofs.AssertLemmas.{both-fine}
use Rattle.wf_bounds_stmts.proofs.BaseLemmas.{number_tree}

-- A number's tree, by its kind.
pub numeric_by : (nodes : TypedNodes) (e : ExprId) → is_tree_of (type_of_node nodes e.0) (tree_of nodes e) ≡ true → is_number_at nodes e ≡ true → tree_of nodes e ≡ numeric (node_number nodes e)
numeric_by nodes e kind h = number_tree (type_of_node nodes e.0) (tree_of nodes e) kind (and_parts (is_expr nodes e) _ h).1

-- What is handed over, where it is numbers.
module _ (nodes : TypedNodes) (fs : List Claim) (width : Width) (of : Option NumType) (same : of ≡ all_of width) where
  pub two-handed : (a b : ExprId) → tree_of nodes a ≡ numeric (node_number nodes a) → tree_of nodes b ≡ numeric (node_number nodes b)
      → all_handed B8 fs ((of, tree_of nodes a) ∷ (of, tree_of nodes b) ∷ []) ≡ all_handed B8 fs ((all_of width, numeric (node_number nodes a)) ∷ (all_of width, numeric (node_number nodes b)) ∷ [])
  two-handed a b h k = λ n. all_handed B8 fs ((same n, h n) ∷ (same n, k n) ∷ [])

  pub one-handed : (a : ExprId) → tree_of nodes a ≡ numeric (node_number nodes a) → all_handed B8 fs ((of, tree_of nodes a) ∷ []) ≡ all_handed B8 fs ((all_of width, numeric (node_number nodes a)) ∷ [])
  one-handed a h = λ n. all_handed B8 fs ((same n, h n) ∷ [])

-- Where none of two is refused, neither is.
neither : (at at' : Place) (p q : Option Refusal) → option_map {T = Placed} {U = Refusal} (λ x. x.1) (written_first (placed at p) (placed at' q)) ≡ None → (p ≡ None) × (q ≡ None)
neither at at' None None h = (refl, refl)
neither at at' None (Some r) h = absurd (cc (h))
neither at at' (Some r) None h = absurd (cc (h))
neither at at' (Some r) (Some s) h = absurd (by (stands_before at' at) h)
  where
    by : (b : Bool) → option_map {T = Placed} {U = Refusal} (λ x. x.1) (if b then Some (at', s) else Some (at, r)) ≡ None → ⊥
    by true k = cc (k)
    by false k = cc (k)

pub two-fine : (fs : List Claim) (of : Option NumType) (a b : NumTree) → all_handed B8 fs ((of, numeric a) ∷ (of, numeric b) ∷ []) ≡ None → (num_refusal fs false a ≡ None) × (num_refusal fs false b ≡ None)
two-fine fs of a b h =
    let both = neither (place_of (numeric a)) (place_of (numeric b)) (handed_refusal B8 fs (of, numeric a)) (handed_refusal B8 fs (of, numeric b)) h in
    ((both-fine (num_refusal fs false a) (lies_refusal B8 fs of (numeric a)) both.0).0, (both-fine (num_refusal fs false b) (lies_refusal B8 fs of (numeric b)) both.1).0)

-- What is given of the length of a reader, and of that of a writer.
pub reader-given : (fs : List Claim) (nodes : TypedNodes) (on : ExprId) (at : Place) (w : NumTree) → type_of_node nodes on.0 ≡ types.Reader → is_tree_of (type_of_node nodes on.0) (tree_of nodes on) ≡ true
    → gives_sides fs (side_in nodes (sides.Length on)) at_least (single w) ≡ gives_sides fs (single (asked at reader_length (io_in (tree_of nodes on)))) at_least (single w)
reader-given fs nodes on at w ty kind =
    let P : Ty → Type 0 = λ ty. is_tree_of ty (tree_of nodes on) ≡ true in
    by (type_of_node nodes on.0) (tree_of nodes on) ty (subst P ty kind)
  where
    by : (ty : Ty) (t : ValueTree) → ty ≡ types.Reader → is_tree_of types.Reader t ≡ true → gives_sides fs (single (length_in nodes on ty t)) at_least (single w) ≡ gives_sides fs (single (asked at reader_length (io_in t))) at_least (single w)
    by ty (io at' a) same h =
        let P : Ty → Type 0 = λ ty. gives_sides fs (single (length_in nodes on ty (io at' a))) at_least (single w) ≡ gives_sides fs (single (asked at reader_length a)) at_least (single w) in
        subst P (sym same) (sides-alike fs at_least (asked (place_of_node nodes on.0) reader_length a) (asked at reader_length a) w w (asked_alike (place_of_node nodes on.0) at reader_length a) (record { left = λ x. refl; right = λ x. refl }) refl refl)
    by ty t same h = absurd (cc (h))

pub writer-given : (fs : List Claim) (nodes : TypedNodes) (on : ExprId) (at : Place) (k : ℕ) → type_of_node nodes on.0 ≡ types.Writer → is_tree_of (type_of_node nodes on.0) (tree_of nodes on) ≡ true
    → gives_sides fs (side_in nodes (sides.Length on)) at_least (single (number no_place k)) ≡ gives_sides fs (single (asked at writer_length (io_in (tree_of nodes on)))) at_least (single (number at k))
writer-given fs nodes on at k ty kind =
    let P : Ty → Type 0 = λ ty. is_tree_of ty (tree_of nodes on) ≡ true in
    by (type_of_node nodes on.0) (tree_of nodes on) ty (subst P ty kind)
  where
    by : (ty : Ty) (t : ValueTree) → ty ≡ types.Writer → is_tree_of types.Writer t ≡ true
        → gives_sides fs (single (length_in nodes on ty t)) at_least (single (number no_place k)) ≡ gives_sides fs (single (asked at writer_length (io_in t))) at_least (single (number at k))
    by ty (io at' a) same h =
        let P : Ty → Type 0 = λ ty. gives_sides fs (single (length_in nodes on ty (io at' a))) at_least (single (number no_place k)) ≡ gives_sides fs (single (asked at writer_length a)) at_least (single (number at k)) in
        subst P (sym same) (sides-alike fs at_least (asked (place_of_node nodes on.0) writer_length a) (asked at writer_length a) (number no_place k) (number at k) (asked_alike (place_of_node nodes on.0) at writer_length a) (number_alike no_place at k) refl refl)
    by ty t same h = absurd (cc (h))

-- What is answered of requirements in order.
pub first-stops : (p q : Option Refusal) (r : Refusal) → unless_refused {X = Unit {0}} p (tt {0}) ≡ Err r → Err r ≡ unless_refused {X = Unit {0}} (or_else p q) (tt {0})
first-stops None q r h = absurd (cc (h))
first-stops (Some x) q r h = sym h

pub second-stops : (p q d : Option Refusal) (r : Refusal) → p ≡ None → unless_refused {X = Unit {0}} q (tt {0}) ≡ Err r → Err r ≡ unless_refused {X = Unit {0}} (or_else p (or_else q d)) (tt {0})
second-stops None q d r h k = first-stops q d r k
second-stops (Some x) q d r h k = absurd (cc (h))

pub last-decides : (p q d : Option Refusal) (answer : Result (Unit {0}) Refusal) → p ≡ None → q ≡ None → answer ≡ unless_refused {X = Unit {0}} d (tt {0}) → answer ≡ unless_refused {X = Unit {0}} (or_else p (or_else q d)) (tt {0})
last-decides None None d answer h k e = e
last-decides None (Some x) d answer h k e = absurd (cc (k))
last-decides (Some x) q d answer h k e = absurd (cc (h))

pub second-decides : (p d : Option Refusal) (answer : Result (Unit {0}) Refusal) → p ≡ None → answer ≡ unless_refused {X = Unit {0}} d (tt {0}) → answer ≡ unless_refused {X = Unit {0}} (or_else p d) (tt {0})
second-decides None d answer h e = e
second-decides (Some x) d answer h e = absurd (cc (h))

-- What is asked after a list has changed is asked last.
pub still-refused : (p q : Option Refusal) (r : Refusal) → p ≡ Some r → or_else p q ≡ Some r
still-refused p q r h = ap (λ it. or_else it q) h

pub answered-after : (nodes : TypedNodes) (p q d : Option Refusal) (gs : List Claim) (r : Result (Unit {0}) Refusal) (known : FactList) → or_else p q ≡ None → Settles nodes d gs r known → Settles nodes (or_else p (or_else q d)) gs r known
answered-after nodes None None d gs r known h s = s
answered-after nodes None (Some x) d gs r known h s = absurd (cc (h))
answered-after nodes (Some x) q d gs r known h s = absurd (cc (h))
