-- Which entries are added with the parts of statements.
use Rattle.std.proofs.Common.{◌≡◌, ◌∙◌, refl, sym, ap, subst, List, [], ◌∷◌, ◌++◌}
use Rattle.std.proofs.lemmas.List.{append-nil, append_assoc}
use Rattle.wf_ast.specs.declared.parsed.Arm as parsed
use Rattle.wf_ast.specs.declared.typed_code.StmtNode.{StmtNode}
use Rattle.wf_ast.specs.declared.typed_nodes.TypedNodes.{TypedNodes}
use Rattle.wf_named.specs.NamedTree.{NamedExprTree, NamedStmtTree, NamedArmTrees, no_else}
use Rattle.wf_named.specs.NamedTrees.{expr_at, block_at, arms_at}
use Rattle.wf_types_rules.specs.declared.settings.Setting.{Setting}
use Rattle.wf_typed_tree.specs.Entries.{Entry, entries_in, entries, expr_entries, block_entries, arms_entries}
use Rattle.wf_typed_exprs.specs.Growth.{AddsEntries}
use Rattle.wf_typed_exprs.proofs.EntryLemmas.{adds_nothing, adds_then}
use Rattle.wf_typed_stmts.specs.StmtGrowth.{with_stmts}

-- Statements have no entries.
pub lifted_adds : (b c : TypedNodes) (items : List StmtNode) (es : List Entry) → AddsEntries b c es → AddsEntries (with_stmts b items) (with_stmts c items) es
unfolding entries
lifted_adds b c items es h = record { is = h.is }

pub stmts_alone : (p : TypedNodes) (items : List StmtNode) → AddsEntries p (record p { stmts = items }) []
unfolding entries
stmts_alone p items = record { is = sym (append-nil (entries_in p.exprs p.types p.constants)) }

-- One after the other: what is left to add, from here, comes to the whole.
abbrev pub EntriesTo : (old nodes : TypedNodes) → (left whole : List Entry) → Type 0
EntriesTo old nodes left whole = (after : TypedNodes) → AddsEntries nodes after left → AddsEntries old after whole

pub entries_to_next : (old p q : TypedNodes) (xs rest left whole : List Entry) → EntriesTo old p left whole → left ≡ xs ++ rest → AddsEntries p q xs → EntriesTo old q rest whole
entries_to_next old p q xs rest left whole to e one after h = to after (subst (λ l. AddsEntries p after l) (sym e) (adds_then p q after xs rest one h))

pub entries_to_end : (old p : TypedNodes) (left whole : List Entry) → EntriesTo old p left whole → left ≡ [] → AddsEntries old p whole
entries_to_end old p left whole to e = to p (subst (λ l. AddsEntries p p l) (sym e) (adds_nothing p))

-- Arms before a last `else`.
pub arms_joined : (s : Setting) (es : List NamedExprTree) (ts : List NamedStmtTree) (arms : List parsed.Arm) (last : NamedArmTrees)
    → arms_entries s (arms_at es ts arms last) ≡ arms_entries s (arms_at es ts arms no_else) ++ arms_entries s last
arms_joined s es ts [] last = refl
arms_joined s es ts (a ∷ arms) last =
    let front = expr_entries s (expr_at es a.condition) ++ block_entries s (block_at ts a.body) in
    ap (λ l. front ++ l) (arms_joined s es ts arms last) ∙ sym (append_assoc front (arms_entries s (arms_at es ts arms no_else)) (arms_entries s last))
