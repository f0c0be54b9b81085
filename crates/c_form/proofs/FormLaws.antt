-- The first item that breaks the unit form, item by item.
use Rattle.std.proofs.Common.{◌≡◌, ◌<◌, ◌≤◌, ◌+◌, ℕ, zero, suc, Bool, true, false, not, ◌&&◌, if◌then◌else◌, List, [], ◌∷◌, ◌++◌, map, take, drop, length, Some, None, refl, sym, ◌∙◌, ap, arith}
use Rattle.std.specs.List.{slice_get, list_all}
use Rattle.std.specs.Option.{option_map}
use Rattle.std.proofs.lemmas.Option.{slice_get_within}
use Rattle.wf_text.specs.Surface.{Surface}
use Rattle.c_text.specs.CTree.{ItemTree}
use Rattle.c_text.specs.CNodes.{Nodes, unit_tree}
use Rattle.c_meaning.specs.UnitForm.{is_among, item_name, free_name, formed_content, formed_item, meets_surface, signatures, is_complete, break_from, first_break, is_library}
use Rattle.c_form_exprs.proofs.GrowLemmas.{take_one_more, tree_length}
use Rattle.c_form.specs.Items.{formed_alone}
use Rattle.c_form.proofs.ItemLemmas.{some_at, drop_at, drop_all}
use Rattle.c_form.specs.Demands.{none_asked, ask_structs}
use Rattle.c_form.proofs.DemandLemmas.{IsFirstNamed, met_is, complete_is}

and_in : (a b c : Bool) → (a && (b && c)) ≡ ((a && b) && c)
and_in true b c = refl
and_in false b c = refl

formed_by : (p : Surface) (before : List ItemTree) (all : List (List ℕ)) (item : ItemTree) → formed_item p before all item ≡ (formed_alone before all item && meets_surface p item)
formed_by p [] all item = refl
formed_by p (x ∷ before) all item = and_in (free_name (x ∷ before) item) (formed_content (x ∷ before) all item) (meets_surface p item)

length_take : {A : Type 0} (xs : List A) (i : ℕ) → i ≤ length xs → length (take i xs) ≡ i
length_take xs zero h = refl
length_take [] (suc i) h = absurd (omega (arith, h))
length_take (x ∷ xs) (suc i) h = ap suc (length_take xs i (omega (arith, h)))

-- An item that is formed by itself is the first of its name.
first_named : (items : List ItemTree) (i : ℕ) (all : List (List ℕ)) (item : ItemTree) → formed_alone (take i items) all item ≡ true → IsFirstNamed items i item
first_named items i all item h = by (take i items) h
  where
    and_left : (a b : Bool) → (a && b) ≡ true → a ≡ true
    and_left true b h = refl
    and_left false b h = absurd (cc (h))

    not_true : (b : Bool) → not b ≡ true → b ≡ false
    not_true true h = absurd (cc (h))
    not_true false h = refl

    by : (before : List ItemTree) → formed_alone before all item ≡ true → is_among (map item_name before) (item_name item) ≡ false
    by [] h = refl
    by (x ∷ before) h = not_true (is_among (map item_name (x ∷ before)) (item_name item)) (and_left (not (is_among (map item_name (x ∷ before)) (item_name item))) (not (is_library (item_name item))) (and_left (free_name (x ∷ before) item) (formed_content (x ∷ before) all item) h))

module _ (p : Surface) (nodes : Nodes) where
  abbrev items : List ItemTree
  items = unit_tree nodes

  -- What stands at a place of the break: the items before it are formed.
  abbrev Reaches : ℕ → Type 0
  Reaches i = break_from p (take i items) items (drop i items) ≡ first_break p items

  step_at : (i : ℕ) (item : ItemTree) → slice_get items i ≡ Some item → (b : Bool) → formed_item p (take i items) (map item_name items) item ≡ b → break_from p (take i items) items (drop i items) ≡ (if b then break_from p (take i items ++ item ∷ []) items (drop (i + 1) items) else Some (length (take i items)))
  step_at i item is b formed = ap (break_from p (take i items) items) (drop_at items i item is) ∙ ap (λ c. if c then break_from p (take i items ++ item ∷ []) items (drop (i + 1) items) else Some (length (take i items))) formed

  within_tree : (i : ℕ) → i < length nodes.items → i < length items
  within_tree i h = let same : length items ≡ length nodes.items = tree_length nodes in omega (arith, h, same)

  at_break : (i : ℕ) (item : ItemTree) → slice_get items i ≡ Some item → formed_item p (take i items) (map item_name items) item ≡ false → Reaches i → Some i ≡ first_break p items
  at_break i item is unformed so_far =
      let within : i < length items = slice_get_within items i item is in
      sym (ap Some (length_take items i (omega (arith, within)))) ∙ (sym (step_at i item is false unformed) ∙ so_far)

  -- The answer of an item's own test, by the item.
  told : (i : ℕ) (item : ItemTree) (formed : Bool) → slice_get items i ≡ Some item → Some formed ≡ option_map (formed_alone (take i items) (map item_name items)) (slice_get items i) → formed ≡ formed_alone (take i items) (map item_name items) item
  told i item formed is h = let e : Some formed ≡ Some (formed_alone (take i items) (map item_name items) item) = h ∙ ap (option_map (formed_alone (take i items) (map item_name items))) is in cc (e)

  pub breaks_alone : (i : ℕ) → i < length nodes.items → (formed : Bool) → formed ≡ false → Some formed ≡ option_map (formed_alone (take i items) (map item_name items)) (slice_get items i) → Reaches i → Some i ≡ first_break p items
  breaks_alone i within formed isnt h so_far =
      let found = some_at items i (within_tree i within) in
      let unformed : formed_alone (take i items) (map item_name items) found.0 ≡ false = sym (told i found.0 formed found.1 h) ∙ isnt in
      at_break i found.0 found.1 (formed_by p (take i items) (map item_name items) found.0 ∙ ap (λ b. b && meets_surface p found.0) unformed) so_far

  -- What was asked of it, by the item.
  asked : (i : ℕ) (item : ItemTree) (met : Bool) → slice_get items i ≡ Some item → formed_alone (take i items) (map item_name items) item ≡ true → slice_get (ask_structs p (none_asked nodes) p.structs).met i ≡ Some met → meets_surface p item ≡ met
  asked i item met is alone h = let e = met_is p nodes i item is (first_named items i (map item_name items) item alone) in cc (e, h)

  pub breaks_asked : (i : ℕ) → i < length nodes.items → (formed met : Bool) → formed ≡ true → Some formed ≡ option_map (formed_alone (take i items) (map item_name items)) (slice_get items i) → slice_get (ask_structs p (none_asked nodes) p.structs).met i ≡ Some met → met ≡ false → Reaches i → Some i ≡ first_break p items
  breaks_asked i within formed met is h has isnt so_far =
      let found = some_at items i (within_tree i within) in
      let alone : formed_alone (take i items) (map item_name items) found.0 ≡ true = sym (told i found.0 formed found.1 h) ∙ is in
      at_break i found.0 found.1 (formed_by p (take i items) (map item_name items) found.0 ∙ (ap (λ b. b && meets_surface p found.0) alone ∙ (asked i found.0 met found.1 alone has ∙ isnt))) so_far

  pub goes_on : (i : ℕ) → i < length nodes.items → (formed met : Bool) → formed ≡ true → Some formed ≡ option_map (formed_alone (take i items) (map item_name items)) (slice_get items i) → slice_get (ask_structs p (none_asked nodes) p.structs).met i ≡ Some met → met ≡ true → Reaches i → Reaches (i + 1)
  goes_on i within formed met is h has meets so_far =
      let found = some_at items i (within_tree i within) in
      let alone : formed_alone (take i items) (map item_name items) found.0 ≡ true = sym (told i found.0 formed found.1 h) ∙ is in
      let whole : formed_item p (take i items) (map item_name items) found.0 ≡ true = formed_by p (take i items) (map item_name items) found.0 ∙ (ap (λ b. b && meets_surface p found.0) alone ∙ (asked i found.0 met found.1 alone has ∙ meets)) in
      ap (λ xs. break_from p xs items (drop (i + 1) items)) (take_one_more items i found.0 found.1) ∙ (sym (step_at i found.0 found.1 true whole) ∙ so_far)

  -- All items are formed: then the form has them all, or not all that is asked is there.
  complete_by : (xs : List ItemTree) → 0 < length xs → is_complete p xs ≡ list_all (λ s. is_among (map item_name xs) s.name) (signatures p)
  complete_by [] h = absurd (omega (arith, h))
  complete_by (x ∷ xs) h = refl

  at_end : (i : ℕ) → length nodes.items ≤ i → i ≤ length nodes.items → (c : Bool) → is_complete p items ≡ c → Reaches i → first_break p items ≡ (if c then None else Some i)
  at_end i low high c complete so_far =
      let same : length items ≡ length nodes.items = tree_length nodes in
      let none : drop i items ≡ [] = drop_all items i (omega (arith, low, same)) in
      let all : length (take i items) ≡ i = length_take items i (omega (arith, high, same)) in
      sym so_far ∙ (ap (break_from p (take i items) items) none ∙ (ap (λ b. if b then None else Some (length (take i items))) complete ∙ ap (λ n. if c then None else Some n) all))

  pub all_formed : (i : ℕ) → length nodes.items ≤ i → i ≤ length nodes.items → 0 < i → (ask_structs p (none_asked nodes) p.structs).complete ≡ true → Reaches i → None ≡ first_break p items
  all_formed i low high some complete so_far =
      let same : length items ≡ length nodes.items = tree_length nodes in
      sym (at_end i low high true (complete_by items (omega (arith, some, high, same)) ∙ (sym (complete_is p nodes) ∙ complete)) so_far)

  pub one_missing : (i : ℕ) → length nodes.items ≤ i → i ≤ length nodes.items → (ask_structs p (none_asked nodes) p.structs).complete ≡ false → Reaches i → Some i ≡ first_break p items
  one_missing i low high missing so_far = sym (at_end i low high false (by items (sym (complete_is p nodes) ∙ missing)) so_far)
    where
      by : (xs : List ItemTree) → list_all (λ s. is_among (map item_name xs) s.name) (signatures p) ≡ false → is_complete p xs ≡ false
      by [] h = refl
      by (x ∷ xs) h = h

  pub no_item : (i : ℕ) → length nodes.items ≤ i → i ≤ length nodes.items → i ≡ 0 → Reaches i → Some i ≡ first_break p items
  no_item i low high zero_is so_far =
      let same : length items ≡ length nodes.items = tree_length nodes in
      sym (at_end i low high false (by items (omega (arith, same, low, zero_is))) so_far)
    where
      by : (xs : List ItemTree) → length xs ≤ 0 → is_complete p xs ≡ false
      by [] h = refl
      by (x ∷ xs) h = absurd (omega (arith, h))

pub above_zero : (i : ℕ) → (i ≡ 0 → ⊥) → 0 < i
above_zero zero h = absurd (h refl)
above_zero (suc i) h = omega arith
