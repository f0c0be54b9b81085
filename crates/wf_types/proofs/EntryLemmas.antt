-- Which entries a package has, method by method.
use Rattle.std.proofs.Common.{◌≡◌, ◌∙◌, refl, sym, ap, subst, ℕ, ◌+◌, ◌≤◌, List, [], ◌∷◌, ◌++◌, length, map, drop, get_or, Some, slice_get}
use Rattle.std.proofs.lemmas.List.{append_assoc, append-nil, drop_all}
use Rattle.std.proofs.lemmas.Option.{slice_get-get_or}
use Rattle.wf_text.specs.declared.place.Place.{Place}
use Rattle.wf_ast.specs.declared.numbers.ExprId.{ExprId}
use Rattle.wf_ast.specs.declared.typed_code.Block as typed_code
use Rattle.wf_ast.specs.declared.typed_nodes.TypedNodes.{TypedNodes}
use Rattle.wf_named.specs.declared.declarations.NamedVar.{NamedVar}
use Rattle.wf_named.specs.declared.nodes.Variable.TheVariants as variables
use Rattle.wf_named.specs.NamedParts.{NamedParts}
use Rattle.wf_named.specs.NamedTree.{NamedExprTree, NamedBlockTree, NamedMethodTree, NamedPackageTree}
use Rattle.wf_named.specs.NamedTrees.{var_made}
use Rattle.wf_types_rules.specs.declared.settings.Setting.{Setting}
use Rattle.wf_types_exprs.proofs.ListLemmas.{drop-one}
use Rattle.wf_typed_tree.specs.Entries.{entries, path_entry, local_entries, block_entries, method_entries, methods_entries}
use Rattle.wf_typed_exprs.specs.Growth.{AddsEntries}
use Rattle.wf_typed_exprs.proofs.EntryLemmas.{adds_then}
use Rattle.wf_typed_stmts.proofs.EntryLemmas.{EntriesTo, entries_to_next, entries_to_end}
use Rattle.wf_types.specs.Bodies.{finished}
use Rattle.wf_types.specs.Locals.{places_of, places_named}
use Rattle.wf_types.proofs.LocalLemmas.{below_length, same_places}

drop_place : (places : List Place) (n : ℕ) (at : Place) → slice_get places n ≡ Some at → drop n places ≡ at ∷ drop (n + 1) places
drop_place places n at e =
    let low = below_length places n at e in
    let both : Some (get_or places n at) ≡ Some at = sym (slice_get-get_or places n at low) ∙ e in
    let item : get_or places n at ≡ at = cc both in
    drop-one places n at low ∙ ap (λ y. y ∷ drop (n + 1) places) item

pub local_next : (s : Setting) (old p q : TypedNodes) (places : List Place) (n : ℕ) (at : Place) → slice_get places n ≡ Some at
    → EntriesTo old p (local_entries s n (drop n places)) (local_entries s 0 places) → AddsEntries p q (path_entry s (record { of = variables.Local (record { 0 = n }); at = at }) ∷ [])
    → EntriesTo old q (local_entries s (n + 1) (drop (n + 1) places)) (local_entries s 0 places)
local_next s old p q places n at is to one =
    entries_to_next old p q (path_entry s (record { of = variables.Local (record { 0 = n }); at = at }) ∷ []) (local_entries s (n + 1) (drop (n + 1) places)) (local_entries s n (drop n places))
    (local_entries s 0 places) to (ap (local_entries s n) (drop_place places n at is)) one

pub locals_end : (s : Setting) (old p : TypedNodes) (places : List Place) (n : ℕ) → length places ≤ n → EntriesTo old p (local_entries s n (drop n places)) (local_entries s 0 places)
    → AddsEntries old p (local_entries s 0 places)
locals_end s old p places n past to = entries_to_end old p (local_entries s n (drop n places)) (local_entries s 0 places) to (ap (local_entries s n) (drop_all n places past))

-- A method in its setting: its locals, and its body after them.
pub method_adds : (texts : List (List ℕ)) (es : List NamedExprTree) (xs locals : List NamedVar) (body : NamedBlockTree) (of : locals ≡ xs) (s t : Setting) → s ≡ t → (old mid new : TypedNodes)
    → AddsEntries old mid (local_entries s 0 (places_named locals)) → AddsEntries mid new (block_entries s body)
    → AddsEntries old new (local_entries t 0 (places_of (map (var_made texts es) xs)) ++ block_entries t body)
method_adds texts es xs locals body of s t inside old mid new g h =
    let named : places_named locals ≡ places_of (map (var_made texts es) xs) = sym (same_places texts es xs ∙ ap places_named (sym of)) in
    let P : List Place → Type 0 = λ places. AddsEntries old mid (local_entries t 0 places) in
    let S : Setting → Type 0 = λ r. AddsEntries old mid (local_entries r 0 (places_named locals)) in
    let B : Setting → Type 0 = λ r. AddsEntries mid new (block_entries r body) in
    adds_then old mid new (local_entries t 0 (places_of (map (var_made texts es) xs))) (block_entries t body) (subst P named (subst S inside g)) (subst B inside h)

-- One method more.
pub methods_added : (p : NamedPackageTree) (ms : List NamedMethodTree) (m : NamedMethodTree) → methods_entries p (ms ++ m ∷ []) ≡ methods_entries p ms ++ method_entries p m
methods_added p [] m = append-nil (method_entries p m)
methods_added p (l ∷ ms) m = ap (λ es. method_entries p l ++ es) (methods_added p ms m) ∙ sym (append_assoc (method_entries p l) (methods_entries p ms) (method_entries p m))

pub entries_more : (p : NamedPackageTree) (ms : List NamedMethodTree) (m : NamedMethodTree) (old new : TypedNodes) → entries old ≡ methods_entries p ms → AddsEntries old new (method_entries p m)
    → entries new ≡ methods_entries p (ms ++ m ∷ [])
entries_more p ms m old new is adds = adds.is ∙ ap (λ es. es ++ method_entries p m) is ∙ sym (methods_added p ms m)

-- Bodies have no entries.
pub entries_with : (q : NamedParts) (nodes : TypedNodes) (bs : List typed_code.Block) (es : List ExprId) → entries (finished q nodes bs es) ≡ entries nodes
unfolding entries
entries_with q nodes bs es = refl
