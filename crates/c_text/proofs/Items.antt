-- The text of one item of a unit.
use Rattle.std.proofs.Common.{◌≡◌, ℕ, zero, suc, ◌+◌, ◌<◌, ◌≤◌, List, [], ◌∷◌, ◌++◌, length, drop, Option, Some, IfSome, refl, sym, ◌∙◌, ap, subst, arith, add-one}
use Rattle.std.proofs.lemmas.List.{length-map}
use Rattle.std.specs.List.{slice_get}
use Rattle.c_text.specs.declared.nodes.CItem.{CItem}
use Rattle.c_text.specs.CTree.{ItemTree}
use Rattle.c_text.specs.CNodes.{Nodes, made_item, unit_tree}
use Rattle.c_text.specs.CLayout.{item_text, items_text}

pub item_node : (nodes : Nodes) (i : ℕ) (x y : CItem) → slice_get (unit_tree nodes) i ≡ Some (made_item nodes x) → x ≡ y → slice_get (unit_tree nodes) i ≡ Some (made_item nodes y)
item_node nodes i x y tree is = tree ∙ ap (λ (z : CItem). Some (made_item nodes z)) is

pub item_writes : (Writes : List ℕ → Type 0) (items : List ItemTree) (i : ℕ) (tree : ItemTree) → slice_get items i ≡ Some tree → Writes (item_text tree) → IfSome (slice_get items i) (λ t. Writes (item_text t))
item_writes Writes items i tree is w = subst (λ (o : Option ItemTree). IfSome o (λ t. Writes (item_text t))) (sym is) w

pub item_wrote : (Writes : List ℕ → Type 0) (items : List ItemTree) (i : ℕ) (tree : ItemTree) → slice_get items i ≡ Some tree → IfSome (slice_get items i) (λ t. Writes (item_text t)) → Writes (item_text tree)
item_wrote Writes items i tree is w = subst (λ (o : Option ItemTree). IfSome o (λ t. Writes (item_text t))) is w

pub unit_length : (nodes : Nodes) → length (unit_tree nodes) ≡ length nodes.items
unfolding unit_tree
unit_length nodes = length-map nodes.items (made_item nodes)

-- the item at a place, and the text of the items from there on
pub record ItemAt (items : List ItemTree) (i : ℕ) : Type 0 where
  pub tree : ItemTree
  pub is : slice_get items i ≡ Some tree
  pub text : items_text (drop i items) ≡ item_text tree ++ items_text (drop (i + 1) items)

item_from : (items : List ItemTree) (i : ℕ) → i < length items → (tree : ItemTree) × (slice_get items i ≡ Some tree) × (items_text (drop i items) ≡ item_text tree ++ items_text (drop (suc i) items))
item_from [] i h = absurd (omega (arith, h))
item_from (x ∷ xs) zero h = (x, refl, refl)
item_from (x ∷ xs) (suc i) h = item_from xs i (omega (arith, h))

pub item_at : (items : List ItemTree) (i : ℕ) → i < length items → ItemAt items i
item_at items i h =
    let p = item_from items i h in
    record { tree = p.0; is = p.1; text = p.2 ∙ ap (λ n. item_text p.0 ++ items_text (drop n items)) (sym (add-one i)) }

pub items_over : (items : List ItemTree) (i : ℕ) → length items ≤ i → items_text (drop i items) ≡ []
items_over [] zero h = refl
items_over [] (suc i) h = refl
items_over (x ∷ xs) zero h = absurd (omega (arith, h))
items_over (x ∷ xs) (suc i) h = items_over xs i (omega (arith, h))
