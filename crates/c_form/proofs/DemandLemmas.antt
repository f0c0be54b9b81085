-- What the items have met after all was asked.
use Rattle.std.proofs.Common.{◌≡◌, ◌<◌, ◌≤◌, ◌+◌, ℕ, zero, suc, Bool, true, false, ◌&&◌, ◌||◌, if◌then◌else◌, List, [], ◌∷◌, map, take, drop, get_or, length, replicate, set, Option, Some, None, is_some, refl, sym, ◌∙◌, ap, subst, arith}
use Rattle.std.specs.List.{slice_get, list_all}
use Rattle.std.specs.Str.{bytes_eq}
use Rattle.std.proofs.lemmas.Option.{slice_get_within}
use Rattle.c_text.specs.CNodes.{Nodes, unit_tree}
use Rattle.c_form_exprs.proofs.GrowLemmas.{tree_length}
use Rattle.std.proofs.lemmas.List.Folds.{list_all-append}
use Rattle.wf_text.specs.Surface.{Surface, PublicStruct, PublicMethod}
use Rattle.pens.proofs.Progress.{unroll}
use Rattle.c_text.proofs.Names.{bytes_eq-true}
use Rattle.c_text.specs.CTree.{ItemTree}
use Rattle.c_meaning.specs.CRun.{struct_name}
use Rattle.c_meaning.specs.UnitForm.{Signature, item_name, is_among, has_signature, is_struct, meets_signature, meets_struct, meets_surface, struct_signatures, signatures, method_signature, initialize_signature}
use Rattle.std.specs.Option.{option_map}
use Rattle.c_form.specs.Items.{item_at}
use Rattle.c_form.proofs.ItemLemmas.{some_at, at_among}
use Rattle.c_form.specs.Signatures.{method_by, initialize_by}
use Rattle.c_form.specs.Demands.{ask, Tally, none_asked, ask_function, ask_struct, ask_functions, ask_all, ask_structs}

-- An item is asked by the first of its name.
abbrev pub IsFirstNamed : List ItemTree → ℕ → ItemTree → Type 0
IsFirstNamed items i item = is_among (map item_name (take i items)) (item_name item) ≡ false

met_same : (b : Bool) (m : Bool) (x : Bool) → b ≡ false → m ≡ (m && (if b then x else true))
met_same true m x h = absurd (cc (h))
met_same false true x h = refl
met_same false false x h = refl

or_parts : (a b : Bool) → (a || b) ≡ false → (a ≡ false) × (b ≡ false)
or_parts true b h = absurd (cc (h))
or_parts false b h = (refl, h)

-- The name that is asked is another one than the item's, where an earlier item has it and the item is the first of its own.
other_name : (name one own : List ℕ) → bytes_eq name one ≡ true → bytes_eq own one ≡ false → bytes_eq name own ≡ false
other_name name one own is isnt = by (bytes_eq name own) refl
  where
    by : (b : Bool) → bytes_eq name own ≡ b → bytes_eq name own ≡ false
    by true h = absurd (let e : name ≡ own = bytes_eq-true name own h in let f : bytes_eq own one ≡ true = subst (λ (n : List ℕ). bytes_eq n one ≡ true) e is in cc (f, isnt))
    by false h = h

pub asked_at : (name : List ℕ) (passes : ItemTree → Bool) (items : List ItemTree) (met : List Bool) (i : ℕ) (item : ItemTree) (m : Bool) → slice_get items i ≡ Some item → IsFirstNamed items i item → slice_get met i ≡ Some m → slice_get (ask name passes items met) i ≡ Some (m && (if bytes_eq name (item_name item) then passes item else true))
asked_at name passes [] met i item m is first has = absurd (cc (is))
asked_at name passes (x ∷ items) [] i item m is first has = absurd (cc (has))
asked_at name passes (x ∷ items) (n ∷ met) zero item m is first has =
    let e : x ≡ item = cc (is) in
    let f : n ≡ m = cc (has) in
    subst (λ (y : ItemTree). slice_get (ask name passes (x ∷ items) (n ∷ met)) zero ≡ Some (m && (if bytes_eq name (item_name y) then passes y else true))) e (subst (λ (o : Bool). slice_get (ask name passes (x ∷ items) (n ∷ met)) zero ≡ Some (o && (if bytes_eq name (item_name x) then passes x else true))) f (by (bytes_eq name (item_name x)) refl))
  where
    by : (b : Bool) → bytes_eq name (item_name x) ≡ b → slice_get (ask name passes (x ∷ items) (n ∷ met)) zero ≡ Some (n && (if bytes_eq name (item_name x) then passes x else true))
    by true h = rw h refl
    by false h = rw h (ap Some (met_same false n (passes x) refl))
asked_at name passes (x ∷ items) (n ∷ met) (suc i) item m is first has =
    let parts = or_parts (bytes_eq (item_name item) (item_name x)) (is_among (map item_name (take i items)) (item_name item)) first in
    by (bytes_eq name (item_name x)) refl parts.0 (asked_at name passes items met i item m is parts.1 has)
  where
    by : (b : Bool) → bytes_eq name (item_name x) ≡ b → bytes_eq (item_name item) (item_name x) ≡ false → slice_get (ask name passes items met) i ≡ Some (m && (if bytes_eq name (item_name item) then passes item else true)) → slice_get (ask name passes (x ∷ items) (n ∷ met)) (suc i) ≡ Some (m && (if bytes_eq name (item_name item) then passes item else true))
    by true h isnt rest = rw h (has ∙ ap Some (met_same (bytes_eq name (item_name item)) m (passes item) (other_name name (item_name x) (item_name item) h isnt)))
    by false h isnt rest = rw h rest

and_in : (a b c : Bool) → ((a && b) && c) ≡ (a && (b && c))
and_in true b c = refl
and_in false b c = refl

and_true : (a : Bool) → a ≡ (a && true)
and_true true = refl
and_true false = refl

pub items_kept : (it : Tally) (ss : List Signature) → unit_tree (ask_functions it ss).nodes ≡ unit_tree it.nodes
items_kept it [] = refl
items_kept it (s ∷ ss) = items_kept (ask_function it s) ss

functions_met : (it : Tally) (i : ℕ) (item : ItemTree) (m : Bool) (ss : List Signature) → slice_get (unit_tree it.nodes) i ≡ Some item → IsFirstNamed (unit_tree it.nodes) i item → slice_get it.met i ≡ Some m → slice_get (ask_functions it ss).met i ≡ Some (m && list_all (meets_signature item) ss)
functions_met it i item m [] is first has = has ∙ ap Some (and_true m)
functions_met it i item m (s ∷ ss) is first has =
    functions_met (ask_function it s) i item (m && meets_signature item s) ss is first (asked_at s.name (has_signature s) (unit_tree it.nodes) it.met i item m is first has) ∙ ap Some (and_in m (meets_signature item s) (list_all (meets_signature item) ss))

functions_complete : (it : Tally) (ss : List Signature) → (ask_functions it ss).complete ≡ (it.complete && list_all (λ s. is_among (map item_name (unit_tree it.nodes)) s.name) ss)
functions_complete it [] = and_true it.complete
functions_complete it (s ∷ ss) = functions_complete (ask_function it s) ss ∙ and_in it.complete (is_among (map item_name (unit_tree it.nodes)) s.name) (list_all (λ t. is_among (map item_name (unit_tree it.nodes)) t.name) ss)

met_step : (b m i l s n : Bool) → ((((b && m) && i) && l) && (s && n)) ≡ (b && ((i && (l && s)) && (m && n)))
met_step true true true true true n = refl
met_step true true true true false n = refl
met_step true true true false s n = refl
met_step true true false l s n = refl
met_step true false true true true n = refl
met_step true false true true false n = refl
met_step true false true false s n = refl
met_step true false false l s n = refl
met_step false m i l s n = refl

complete_step : (c i l s : Bool) → (((c && i) && l) && s) ≡ (c && (i && (l && s)))
complete_step true true l s = refl
complete_step true false l s = refl
complete_step false i l s = refl

all_true : (n i : ℕ) → i < n → slice_get (replicate n true) i ≡ Some true
all_true zero i h = absurd (omega (arith, h))
all_true (suc n) zero h = refl
all_true (suc n) (suc i) h = all_true n i (omega (arith, h))

module _ (p : Surface) where
  abbrev after : Tally → PublicStruct → Tally
  after it s = ask_all it (struct_name p s) s.methods

  structs_met : (it : Tally) (i : ℕ) (item : ItemTree) (m : Bool) (ss : List PublicStruct) → slice_get (unit_tree it.nodes) i ≡ Some item → IsFirstNamed (unit_tree it.nodes) i item → slice_get it.met i ≡ Some m → slice_get (ask_structs p it ss).met i ≡ Some (m && (list_all (meets_signature item) (struct_signatures p ss) && list_all (meets_struct p item) ss))
  structs_met it i item m [] is first has = has ∙ ap Some (and_true m)
  structs_met it i item m (s ∷ ss) is first has =
      let one : slice_get (ask_struct it (struct_name p s)).met i ≡ Some (m && meets_struct p item s) = asked_at (struct_name p s) is_struct (unit_tree it.nodes) it.met i item m is first has in
      let two : slice_get (ask_function (ask_struct it (struct_name p s)) (initialize_signature p s)).met i ≡ Some ((m && meets_struct p item s) && meets_signature item (initialize_signature p s)) = asked_at (initialize_signature p s).name (has_signature (initialize_signature p s)) (unit_tree it.nodes) (ask_struct it (struct_name p s)).met i item (m && meets_struct p item s) is first one in
      let three : slice_get (after it s).met i ≡ Some (((m && meets_struct p item s) && meets_signature item (initialize_signature p s)) && list_all (meets_signature item) (map (method_signature p s) s.methods)) = functions_met (ask_function (ask_struct it (struct_name p s)) (initialize_signature p s)) i item ((m && meets_struct p item s) && meets_signature item (initialize_signature p s)) (map (method_signature p s) s.methods) is first two in
      let kept : (unit_tree (after it s).nodes) ≡ (unit_tree it.nodes) = items_kept (ask_function (ask_struct it (struct_name p s)) (initialize_signature p s)) (map (method_signature p s) s.methods) in
      let is' : slice_get (unit_tree (after it s).nodes) i ≡ Some item = ap (λ xs. slice_get xs i) kept ∙ is in
      let first' : IsFirstNamed (unit_tree (after it s).nodes) i item = ap (λ (xs : List ItemTree). is_among (map item_name (take i xs)) (item_name item)) kept ∙ first in
      structs_met (after it s) i item (((m && meets_struct p item s) && meets_signature item (initialize_signature p s)) && list_all (meets_signature item) (map (method_signature p s) s.methods)) ss is' first' three
      ∙ ap Some (met_step m (meets_struct p item s) (meets_signature item (initialize_signature p s)) (list_all (meets_signature item) (map (method_signature p s) s.methods)) (list_all (meets_signature item) (struct_signatures p ss)) (list_all (meets_struct p item) ss)
      ∙ ap (λ b. m && ((meets_signature item (initialize_signature p s) && b) && (meets_struct p item s && list_all (meets_struct p item) ss))) (sym (list_all-append (meets_signature item) (map (method_signature p s) s.methods) (struct_signatures p ss))))

  structs_complete : (it : Tally) (ss : List PublicStruct) → (ask_structs p it ss).complete ≡ (it.complete && list_all (λ s. is_among (map item_name (unit_tree it.nodes)) s.name) (struct_signatures p ss))
  structs_complete it [] = and_true it.complete
  structs_complete it (s ∷ ss) =
      let kept : (unit_tree (after it s).nodes) ≡ (unit_tree it.nodes) = items_kept (ask_function (ask_struct it (struct_name p s)) (initialize_signature p s)) (map (method_signature p s) s.methods) in
      let there : Signature → Bool = λ t. is_among (map item_name (unit_tree it.nodes)) t.name in
      structs_complete (after it s) ss ∙ (ap (λ (xs : List ItemTree). (after it s).complete && list_all (λ t. is_among (map item_name xs) t.name) (struct_signatures p ss)) kept
      ∙ (ap (λ b. b && list_all there (struct_signatures p ss)) (functions_complete (ask_function (ask_struct it (struct_name p s)) (initialize_signature p s)) (map (method_signature p s) s.methods))
      ∙ (complete_step it.complete (there (initialize_signature p s)) (list_all there (map (method_signature p s) s.methods)) (list_all there (struct_signatures p ss))
      ∙ ap (λ b. it.complete && (there (initialize_signature p s) && b)) (sym (list_all-append there (map (method_signature p s) s.methods) (struct_signatures p ss))))))

  -- The first item of its name has met what the package asks exactly where it meets the surface.
  pub met_is : (nodes : Nodes) (i : ℕ) (item : ItemTree) → slice_get (unit_tree nodes) i ≡ Some item → IsFirstNamed (unit_tree nodes) i item → slice_get (ask_structs p (none_asked nodes) p.structs).met i ≡ Some (meets_surface p item)
  met_is nodes i item is first =
      let within : i < length (unit_tree nodes) = slice_get_within (unit_tree nodes) i item is in
      let same : length (unit_tree nodes) ≡ length nodes.items = tree_length nodes in
      structs_met (none_asked nodes) i item true p.structs is first (all_true (length nodes.items) i (omega (arith, within, same)))

  pub complete_is : (nodes : Nodes) → (ask_structs p (none_asked nodes) p.structs).complete ≡ list_all (λ s. is_among (map item_name (unit_tree nodes)) s.name) (signatures p)
  complete_is nodes = structs_complete (none_asked nodes) p.structs

-- What a look by a table does.
pub not_there : (name : List ℕ) (passes : ItemTree → Bool) (k : ℕ) (items : List ItemTree) (met : List Bool) → item_at k items name ≡ None → ask name passes items met ≡ met
not_there name passes k [] met none = refl
not_there name passes k (x ∷ items) [] none = refl
not_there name passes k (x ∷ items) (m ∷ met) none = by (bytes_eq name (item_name x)) refl (not_there name passes (k + 1) items met)
  where
    by : (b : Bool) → bytes_eq name (item_name x) ≡ b → (item_at (k + 1) items name ≡ None → ask name passes items met ≡ met) → ask name passes (x ∷ items) (m ∷ met) ≡ m ∷ met
    by true h more = absurd (let e : item_at k (x ∷ items) name ≡ Some k = rw h refl in cc (e, none))
    by false h more = let e : item_at k (x ∷ items) name ≡ item_at (k + 1) items name = rw h refl in rw h (ap (λ ms. m ∷ ms) (more (sym e ∙ none)))

-- Where it is found, it is the one that is asked.
pub found_within : (name : List ℕ) (k : ℕ) (items : List ItemTree) (j : ℕ) → item_at k items name ≡ Some j → (k ≤ j) × (j < k + length items)
found_within name k [] j h = absurd (cc (h))
found_within name k (x ∷ items) j h = by (bytes_eq name (item_name x)) refl (found_within name (k + 1) items j)
  where
    by : (b : Bool) → bytes_eq name (item_name x) ≡ b → (item_at (k + 1) items name ≡ Some j → (k + 1 ≤ j) × (j < k + 1 + length items)) → (k ≤ j) × (j < k + length (x ∷ items))
    by true is more = let e : item_at k (x ∷ items) name ≡ Some k = rw is refl in let f : k ≡ j = cc (e, h) in (omega (arith, f), omega (arith, f))
    by false is more = let e : item_at k (x ∷ items) name ≡ item_at (k + 1) items name = rw is refl in let r = more (sym e ∙ h) in (omega (arith, r.0), omega (arith, r.1))

pub there_passes : (name : List ℕ) (passes : ItemTree → Bool) (k : ℕ) (items : List ItemTree) (met : List Bool) (n : ℕ) (item : ItemTree) → item_at k items name ≡ Some (k + n) → slice_get items n ≡ Some item → passes item ≡ true → ask name passes items met ≡ met
there_passes name passes k [] met n item found is pass = refl
there_passes name passes k (x ∷ items) [] n item found is pass = refl
there_passes name passes k (x ∷ items) (m ∷ met) n item found is pass = by (bytes_eq name (item_name x)) refl n is found (λ n' f i. there_passes name passes (k + 1) items met n' item f i pass)
  where
    by : (b : Bool) → bytes_eq name (item_name x) ≡ b → (o : ℕ) → slice_get (x ∷ items) o ≡ Some item → item_at k (x ∷ items) name ≡ Some (k + o) → ((n' : ℕ) → item_at (k + 1) items name ≡ Some (k + 1 + n') → slice_get items n' ≡ Some item → ask name passes items met ≡ met) → ask name passes (x ∷ items) (m ∷ met) ≡ m ∷ met
    by true h o it at more =
        let e : item_at k (x ∷ items) name ≡ Some k = rw h refl in
        let f : k ≡ k + o = cc (e, at) in
        let z : o ≡ zero = omega (arith, f) in
        let y : x ≡ item = (let g : slice_get (x ∷ items) zero ≡ Some item = ap (slice_get (x ∷ items)) (sym z) ∙ it in cc (g)) in
        rw h (ap (λ b. b ∷ met) (ap (λ (w : ItemTree). m && passes w) y ∙ (ap (λ b. m && b) pass ∙ sym (and_true m))))
    by false h zero it at more =
        absurd (let e : item_at k (x ∷ items) name ≡ item_at (k + 1) items name = rw h refl in let r = found_within name (k + 1) items (k + 0) (sym e ∙ at) in omega (arith, r.0))
    by false h (suc o) it at more =
        let e : item_at k (x ∷ items) name ≡ item_at (k + 1) items name = rw h refl in
        let p : k + suc o ≡ k + 1 + o = omega arith in
        rw h (ap (λ ms. m ∷ ms) (more o (sym e ∙ (at ∙ ap Some p)) it))

pub there_fails : (name : List ℕ) (passes : ItemTree → Bool) (k : ℕ) (items : List ItemTree) (met : List Bool) (n : ℕ) (item : ItemTree) → item_at k items name ≡ Some (k + n) → slice_get items n ≡ Some item → passes item ≡ false → length met ≡ length items → ask name passes items met ≡ set met n false
there_fails name passes k [] met n item found is pass same = absurd (cc (is))
there_fails name passes k (x ∷ items) [] n item found is pass same = absurd (omega (arith, same))
there_fails name passes k (x ∷ items) (m ∷ met) n item found is pass same = by (bytes_eq name (item_name x)) refl n is found (λ n' f i. there_fails name passes (k + 1) items met n' item f i pass (omega (arith, same)))
  where
    and_false : (b : Bool) → (b && false) ≡ false
    and_false true = refl
    and_false false = refl

    by : (b : Bool) → bytes_eq name (item_name x) ≡ b → (o : ℕ) → slice_get (x ∷ items) o ≡ Some item → item_at k (x ∷ items) name ≡ Some (k + o) → ((n' : ℕ) → item_at (k + 1) items name ≡ Some (k + 1 + n') → slice_get items n' ≡ Some item → ask name passes items met ≡ set met n' false) → ask name passes (x ∷ items) (m ∷ met) ≡ set (m ∷ met) o false
    by true h zero it at more =
        let y : x ≡ item = cc (it) in
        rw h (ap (λ b. b ∷ met) (ap (λ (w : ItemTree). m && passes w) y ∙ (ap (λ b. m && b) pass ∙ and_false m)))
    by true h (suc o) it at more =
        absurd (let e : item_at k (x ∷ items) name ≡ Some k = rw h refl in let f : k ≡ k + suc o = cc (e, at) in omega (arith, f))
    by false h zero it at more =
        absurd (let e : item_at k (x ∷ items) name ≡ item_at (k + 1) items name = rw h refl in let r = found_within name (k + 1) items (k + 0) (sym e ∙ at) in omega (arith, r.0))
    by false h (suc o) it at more =
        let e : item_at k (x ∷ items) name ≡ item_at (k + 1) items name = rw h refl in
        let p : k + suc o ≡ k + 1 + o = omega arith in
        rw h (ap (λ ms. m ∷ ms) (more o (sym e ∙ (at ∙ ap Some p)) it))

-- The same of the items of a unit.
abbrev pub tally : Nodes → List Bool → Bool → Tally
tally nodes met complete = record { nodes = nodes; met = met; complete = complete }

pub found_item : (nodes : Nodes) (name : List ℕ) (i : ℕ) → item_at 0 (unit_tree nodes) name ≡ Some i → i < length nodes.items
found_item nodes name i h = let r = found_within name 0 (unit_tree nodes) i h in let same : length (unit_tree nodes) ≡ length nodes.items = tree_length nodes in omega (arith, r.1, same)

from_zero : (o : Option ℕ) (i : ℕ) → o ≡ Some i → o ≡ Some (0 + i)
from_zero o i h = h ∙ ap Some (let e : i ≡ 0 + i = omega arith in e)

item_of : (nodes : Nodes) (name : List ℕ) (i : ℕ) → item_at 0 (unit_tree nodes) name ≡ Some i → (x : ItemTree) × (slice_get (unit_tree nodes) i ≡ Some x)
item_of nodes name i h = some_at (unit_tree nodes) i (let r = found_within name 0 (unit_tree nodes) i h in omega (arith, r.1))

told_test : (o : Option ItemTree) (x : ItemTree) (passes : ItemTree → Bool) (b : Bool) → o ≡ Some x → option_map passes o ≡ Some b → passes x ≡ b
told_test o x passes b is h = let e : Some (passes x) ≡ Some b = sym (ap (option_map passes) is) ∙ h in cc (e)

fails : (nodes : Nodes) (name : List ℕ) (passes : ItemTree → Bool) (met : List Bool) (i : ℕ) → item_at 0 (unit_tree nodes) name ≡ Some i → option_map passes (slice_get (unit_tree nodes) i) ≡ Some false → length met ≡ length nodes.items → ask name passes (unit_tree nodes) met ≡ set met i false
fails nodes name passes met i found test same =
    let x = item_of nodes name i found in
    there_fails name passes 0 (unit_tree nodes) met i x.0 (from_zero (item_at 0 (unit_tree nodes) name) i found) x.1 (told_test (slice_get (unit_tree nodes) i) x.0 passes false x.1 test) (same ∙ sym (tree_length nodes))

met_so : (nodes : Nodes) (name : List ℕ) (passes : ItemTree → Bool) (met : List Bool) (i : ℕ) → item_at 0 (unit_tree nodes) name ≡ Some i → option_map passes (slice_get (unit_tree nodes) i) ≡ Some true → ask name passes (unit_tree nodes) met ≡ met
met_so nodes name passes met i found test =
    let x = item_of nodes name i found in
    there_passes name passes 0 (unit_tree nodes) met i x.0 (from_zero (item_at 0 (unit_tree nodes) name) i found) x.1 (told_test (slice_get (unit_tree nodes) i) x.0 passes true x.1 test)

there_is : (nodes : Nodes) (name : List ℕ) (i : ℕ) (c : Bool) → item_at 0 (unit_tree nodes) name ≡ Some i → c ≡ (c && is_among (map item_name (unit_tree nodes)) name)
there_is nodes name i c found = let e : is_among (map item_name (unit_tree nodes)) name ≡ true = sym (at_among 0 (unit_tree nodes) name) ∙ ap is_some found in and_true c ∙ ap (λ b. c && b) (sym e)

none_is : (nodes : Nodes) (name : List ℕ) (c : Bool) → item_at 0 (unit_tree nodes) name ≡ None → false ≡ (c && is_among (map item_name (unit_tree nodes)) name)
none_is nodes name c none = let e : is_among (map item_name (unit_tree nodes)) name ≡ false = sym (at_among 0 (unit_tree nodes) name) ∙ ap is_some none in and_none c ∙ ap (λ b. c && b) (sym e)
  where
    and_none : (b : Bool) → false ≡ (b && false)
    and_none true = refl
    and_none false = refl

both_same : (nodes : Nodes) (met met' : List Bool) (c c' : Bool) → met ≡ met' → c ≡ c' → tally nodes met c ≡ tally nodes met' c'
both_same nodes met met' c c' p q = cc (p, q)

pub function_fails : (nodes : Nodes) (met : List Bool) (c : Bool) (s : Signature) (i : ℕ) → item_at 0 (unit_tree nodes) s.name ≡ Some i → option_map (has_signature s) (slice_get (unit_tree nodes) i) ≡ Some false → length met ≡ length nodes.items → tally nodes (set met i false) c ≡ ask_function (tally nodes met c) s
function_fails nodes met c s i found test same = both_same nodes (set met i false) (ask s.name (has_signature s) (unit_tree nodes) met) c (c && is_among (map item_name (unit_tree nodes)) s.name) (sym (fails nodes s.name (has_signature s) met i found test same)) (there_is nodes s.name i c found)

pub function_passes : (nodes : Nodes) (met : List Bool) (c : Bool) (s : Signature) (i : ℕ) → item_at 0 (unit_tree nodes) s.name ≡ Some i → option_map (has_signature s) (slice_get (unit_tree nodes) i) ≡ Some true → tally nodes met c ≡ ask_function (tally nodes met c) s
function_passes nodes met c s i found test = both_same nodes met (ask s.name (has_signature s) (unit_tree nodes) met) c (c && is_among (map item_name (unit_tree nodes)) s.name) (sym (met_so nodes s.name (has_signature s) met i found test)) (there_is nodes s.name i c found)

pub function_missing : (nodes : Nodes) (met : List Bool) (c : Bool) (s : Signature) → item_at 0 (unit_tree nodes) s.name ≡ None → tally nodes met false ≡ ask_function (tally nodes met c) s
function_missing nodes met c s none = both_same nodes met (ask s.name (has_signature s) (unit_tree nodes) met) false (c && is_among (map item_name (unit_tree nodes)) s.name) (sym (not_there s.name (has_signature s) 0 (unit_tree nodes) met none)) (none_is nodes s.name c none)

pub struct_fails : (nodes : Nodes) (met : List Bool) (c : Bool) (name : List ℕ) (i : ℕ) → item_at 0 (unit_tree nodes) name ≡ Some i → option_map is_struct (slice_get (unit_tree nodes) i) ≡ Some false → length met ≡ length nodes.items → tally nodes (set met i false) c ≡ ask_struct (tally nodes met c) name
struct_fails nodes met c name i found test same = both_same nodes (set met i false) (ask name is_struct (unit_tree nodes) met) c c (sym (fails nodes name is_struct met i found test same)) refl

pub struct_passes : (nodes : Nodes) (met : List Bool) (c : Bool) (name : List ℕ) (i : ℕ) → item_at 0 (unit_tree nodes) name ≡ Some i → option_map is_struct (slice_get (unit_tree nodes) i) ≡ Some true → tally nodes met c ≡ ask_struct (tally nodes met c) name
struct_passes nodes met c name i found test = both_same nodes met (ask name is_struct (unit_tree nodes) met) c c (sym (met_so nodes name is_struct met i found test)) refl

pub struct_missing : (nodes : Nodes) (met : List Bool) (c : Bool) (name : List ℕ) → item_at 0 (unit_tree nodes) name ≡ None → tally nodes met c ≡ ask_struct (tally nodes met c) name
struct_missing nodes met c name none = both_same nodes met (ask name is_struct (unit_tree nodes) met) c c (sym (not_there name is_struct 0 (unit_tree nodes) met none)) refl

-- There is an answer for each item.
ask_length : (name : List ℕ) (passes : ItemTree → Bool) (items : List ItemTree) (met : List Bool) → length (ask name passes items met) ≡ length met
ask_length name passes [] met = refl
ask_length name passes (x ∷ items) [] = refl
ask_length name passes (x ∷ items) (m ∷ met) = by (bytes_eq name (item_name x)) refl (ask_length name passes items met)
  where
    by : (b : Bool) → bytes_eq name (item_name x) ≡ b → length (ask name passes items met) ≡ length met → length (ask name passes (x ∷ items) (m ∷ met)) ≡ length (m ∷ met)
    by true h rest = rw h refl
    by false h rest = rw h (ap suc rest)

functions_length : (it : Tally) (ss : List Signature) → length (ask_functions it ss).met ≡ length it.met
functions_length it [] = refl
functions_length it (s ∷ ss) = functions_length (ask_function it s) ss ∙ ask_length s.name (has_signature s) (unit_tree it.nodes) it.met

structs_length : (p : Surface) (it : Tally) (ss : List PublicStruct) → length (ask_structs p it ss).met ≡ length it.met
structs_length p it [] = refl
structs_length p it (s ∷ ss) =
    structs_length p (ask_all it (struct_name p s) s.methods) ss ∙ (functions_length (ask_function (ask_struct it (struct_name p s)) (initialize_by (struct_name p s))) (map (method_by (struct_name p s)) s.methods) ∙ (ask_length (initialize_by (struct_name p s)).name (has_signature (initialize_by (struct_name p s))) (unit_tree it.nodes) (ask_struct it (struct_name p s)).met ∙ ask_length (struct_name p s) is_struct (unit_tree it.nodes) it.met))

replicate_length : (n : ℕ) → length (replicate n true) ≡ n
replicate_length zero = refl
replicate_length (suc n) = ap suc (replicate_length n)

pub met_length : (p : Surface) (nodes : Nodes) → length (ask_structs p (none_asked nodes) p.structs).met ≡ length nodes.items
met_length p nodes = structs_length p (none_asked nodes) p.structs ∙ replicate_length (length nodes.items)

-- One method, and one struct, after the other.
pub methods_on : (of : List ℕ) (it new : Tally) (methods : List PublicMethod) (i : ℕ) (m : PublicMethod) (s : Signature) (whole : Tally) → i < length methods → m ≡ get_or methods i m → new ≡ ask_function it s → s ≡ method_by of m → ask_functions it (map (method_by of) (drop i methods)) ≡ whole → ask_functions new (map (method_by of) (drop (i + 1) methods)) ≡ whole
methods_on of it new methods i m s whole within at is by h =
    let next : drop i methods ≡ m ∷ drop (i + 1) methods = unroll methods i m within ∙ ap (λ x. x ∷ drop (i + 1) methods) (sym at) in
    ap (λ t. ask_functions t (map (method_by of) (drop (i + 1) methods))) (is ∙ ap (ask_function it) by) ∙ (ap (λ xs. ask_functions it (map (method_by of) xs)) (sym next) ∙ h)

pub structs_on : (p : Surface) (it new : Tally) (listed structs : List PublicStruct) (i : ℕ) (s : PublicStruct) (name : List ℕ) (methods : List PublicMethod) (whole : Tally) → listed ≡ structs → i < length listed → s ≡ get_or listed i s → new ≡ ask_all it name methods → name ≡ struct_name p s → methods ≡ s.methods → ask_structs p it (drop i structs) ≡ whole → ask_structs p new (drop (i + 1) structs) ≡ whole
structs_on p it new listed structs i s name methods whole same within at is named_so of_it h =
    let next : drop i structs ≡ s ∷ drop (i + 1) structs = ap (drop i) (sym same) ∙ (unroll listed i s within ∙ (ap (λ x. x ∷ drop (i + 1) listed) (sym at) ∙ ap (λ xs. s ∷ drop (i + 1) xs) same)) in
    let asked : new ≡ ask_all it (struct_name p s) s.methods = is ∙ (ap (λ n. ask_all it n methods) named_so ∙ ap (ask_all it (struct_name p s)) of_it) in
    ap (λ t. ask_structs p t (drop (i + 1) structs)) asked ∙ (ap (ask_structs p it) (sym next) ∙ h)
