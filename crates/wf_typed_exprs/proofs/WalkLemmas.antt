-- One step of the walk after another, and the operands of a chain one by one.
use Rattle.std.proofs.Common.{◌≡◌, ℕ, zero, suc, ◌+◌, ◌<◌, List, [], ◌∷◌, ◌++◌, length, drop, slice_index_or, Option, Some, None, refl, sym, ap, ◌∙◌, subst, arith}
use Rattle.std.specs.Prelude.{option_map, option_and_then}
use Rattle.std.proofs.lemmas.List.{append_assoc, append-nil}
use Rattle.wf_text.specs.declared.place.Place.{Place}
use Rattle.wf_ast.specs.declared.operators.Op.{Op}
use Rattle.wf_ast.specs.declared.parsed.Link.{Link}
use Rattle.wf_ast.specs.declared.typed_code.Expr.TheVariants as exprs
use Rattle.wf_ast.specs.declared.typed_nodes.TypedNodes.{TypedNodes}
use Rattle.wf_ast.specs.TypedTrees.{operator_kind}
use Rattle.wf_named.specs.NamedTree.{NamedExprTree, chain, NamedPartTree, NamedLinkTrees, no_link, link}
use Rattle.wf_named.specs.NamedTrees.{expr_at, links_at}
use Rattle.wf_types_rules.specs.declared.meanings.Meaning.{Meaning}
use Rattle.wf_types_rules.specs.declared.meanings.Operand.{Operand}
use Rattle.wf_types_rules.specs.declared.settings.Setting.{Setting}
use Rattle.wf_types_rules.specs.Meanings.{place_of}
use Rattle.wf_types_rules.specs.Operands.{given, meaning_of_operator}
use Rattle.wf_types_rules.specs.ExprTypes.{meaning, in_front, operand_at, operands_behind, operands}
use Rattle.wf_types_rules.specs.Judgements.{value_of, two_operands}
use Rattle.wf_types_exprs.specs.Judged.{operand_pushed, operand_behind, operands_joined}
use Rattle.wf_types_exprs.proofs.ListLemmas.{drop-one}
use Rattle.wf_typed_tree.specs.ElaboratedExprs.{signs_in, expr_tree}
use Rattle.wf_typed_tree.specs.Entries.{expr_entries}
use Rattle.wf_typed_tree.proofs.NumberLemmas.{then-parts}
use Rattle.wf_typed_tree.proofs.OperandLaws.{taken-parts}
use Rattle.wf_typed_exprs.specs.declared.elaborated.Elaborated.{Elaborated}
use Rattle.wf_typed_exprs.specs.declared.operands.MadeOperands.{MadeOperands}
use Rattle.wf_typed_exprs.specs.Growth.{Grows, AddsEntries}
use Rattle.wf_typed_exprs.specs.Nodes.{StandsForExpr, MakesExpr}
use Rattle.wf_typed_exprs.specs.Chains.{AddsOperand, AddsLinks, AreOperands}
use Rattle.wf_typed_exprs.specs.Right.{IsRight, IsRightEnd, AreRight}
use Rattle.wf_typed_exprs.proofs.ChainLaws.{chain-makes}
use Rattle.wf_typed_exprs.proofs.EntryLemmas.{adds_then}
use Rattle.wf_typed_exprs.proofs.GrowthLemmas.{grows_more, statuses_kept, stands_kept}

-- What breaks no rule breaks none when expressions are added.
module _ (s : Setting) (p q : TypedNodes) (g : Grows p q) where
  pub right_kept : (t : NamedExprTree) → IsRight s (length p.statuses) t → IsRight s (length q.statuses) t
  right_kept t h = subst (λ k. IsRight s k t) (sym (statuses_kept p q g)) h

  pub end_right_kept : (t : NamedPartTree) → IsRightEnd s (length p.statuses) t → IsRightEnd s (length q.statuses) t
  end_right_kept t h = subst (λ k. IsRightEnd s k t) (sym (statuses_kept p q g)) h

-- An operand after the first, by its place.
pub link_right : (s : Setting) (k : ℕ) (ts : List NamedExprTree) (ls : List Link) (i : ℕ) (d : Link) → i < length ls → AreRight s k (links_at ts ls)
    → IsRight s k (expr_at ts (slice_index_or ls i d).operand)
link_right s k ts [] i d h r = absurd (omega (arith, h))
link_right s k ts (l ∷ ls) zero d h r = r.0
link_right s k ts (l ∷ ls) (suc i) d h r = link_right s k ts ls i d (omega (arith, h)) r.1

-- What operands with one more come to.
pushed-joined : (os : List Operand) (at : Place) (m : Option Meaning) (rest : Option (List Operand))
    → operands_joined (operand_pushed os at m) rest ≡ operands_joined (Some os) (in_front (option_map (operand_at at) m) rest)
pushed-joined os at None None = refl
pushed-joined os at None (Some rest) = refl
pushed-joined os at (Some m) None = refl
pushed-joined os at (Some m) (Some rest) = ap Some (append_assoc os (record { at = at; of = m } ∷ []) rest)

behind-joined : (os : Option (List Operand)) (at : Place) (m : Option Meaning) (rest : Option (List Operand))
    → operands_joined (operand_behind os (record { of = m; at = at })) rest ≡ operands_joined os (in_front (option_map (operand_at at) m) rest)
behind-joined None at m rest = refl
behind-joined (Some os) at m rest = pushed-joined os at m rest

pub adds_more : (s : Setting) (sign : Place) (t : NamedExprTree) (others : NamedLinkTrees) (mid after : TypedNodes) (before next all : MadeOperands)
    → AddsOperand s t mid (record before { signs = before.signs ++ sign ∷ [] }) next → Grows mid after → AddsLinks s others after next all
    → AddsLinks s (link sign t others) after before all
adds_more s sign t others mid after before next all a g b =
    record {
      others = a.node ∷ b.others;
      stand = (stands_kept (expr_tree s t) (meaning s t) mid after a.node g a.stands, b.stand);
      parts = b.parts ∙ ap (λ xs. xs ++ b.others) a.parts ∙ append_assoc before.parts (a.node ∷ []) b.others;
      signs = b.signs ∙ ap (λ xs. xs ++ signs_in others) a.signs ∙ append_assoc before.signs (sign ∷ []) (signs_in others);
      means = b.means ∙ ap (λ os. operands_joined os (operands_behind s others)) a.means ∙ behind-joined before.of (place_of t) (meaning s t) (operands_behind s others);
    }

-- What is left, from here, comes to the whole.
abbrev pub LeftToAdd : Setting → List NamedExprTree → (ls left : List Link) → TypedNodes → (before all : MadeOperands) → Type 0
LeftToAdd s ts ls left nodes before all = (after : TypedNodes) (last : MadeOperands) → Grows nodes after → AddsLinks s (links_at ts left) after all last → AddsLinks s (links_at ts ls) after before last

pub left_next : (s : Setting) (ts : List NamedExprTree) (ls : List Link) (i : ℕ) (d : Link) (p q : TypedNodes) (before all next : MadeOperands) → i < length ls
    → LeftToAdd s ts ls (drop i ls) p before all → Grows p q
    → AddsOperand s (expr_at ts (slice_index_or ls i d).operand) q (record all { signs = all.signs ++ (slice_index_or ls i d).sign ∷ [] }) next → LeftToAdd s ts ls (drop (i + 1) ls) q before next
left_next s ts ls i d p q before all next h left g a after last grows rest =
    let l = slice_index_or ls i d in
    let more = adds_more s l.sign (expr_at ts l.operand) (links_at ts (drop (i + 1) ls)) q after all next last a grows rest in
    left after last (grows_more p q after g grows) (subst (λ xs. AddsLinks s (links_at ts xs) after all last) (sym (drop-one ls i d h)) more)

-- An operator gives what a chain means that breaks no rule.
pub given_means : (s : Setting) (k : ℕ) (op : Op) (first : NamedExprTree) (links : NamedLinkTrees) (at : Place) → IsRight s k (chain op first links at)
    → option_and_then (given (operator_kind op)) (operands s first links) ≡ option_and_then (meaning_of_operator (operator_kind op)) (operands s first links)
given_means s k op first links at right =
    let all = then-parts (meaning_of_operator (operator_kind op)) (operands s first links) right.of right.means in
    let taken = taken-parts (operator_kind op) all.of right.of all.gives in
    ap (option_and_then (given (operator_kind op))) all.is ∙ taken.gives ∙ sym right.means

-- A chain of two operands.
module _ (s : Setting) (old mid after : TypedNodes) (op : Op) (first second : NamedExprTree) (sign at : Place) (a b : Elaborated) where
  pub pair_makes : Grows mid after → IsRight s (length after.statuses) (chain op first (link sign second no_link) at)
      → StandsForExpr s first mid a.node → StandsForExpr s second after b.node → a.value ≡ value_of s first → b.value ≡ value_of s second
      → MakesExpr s (chain op first (link sign second no_link) at) after
      (record { node = record { expr = exprs.Chain op (a.node ∷ b.node ∷ []); at = at; signs = sign ∷ [] }; of = option_and_then (given (operator_kind op)) (two_operands a.value b.value) })
  pair_makes g right h k e f =
      let links = link sign second no_link in
      let all : MadeOperands = record { parts = a.node ∷ b.node ∷ []; signs = sign ∷ []; of = operands s first links } in
      let are : AreOperands s first links after all =
      record { head = a.node; others = b.node ∷ []; stands = stands_kept (expr_tree s first) (meaning s first) mid after a.node g h; stand = (k, tt); parts = refl; signs = refl; means = refl } in
      rw (e, f, given_means s (length after.statuses) op first links at right) (chain-makes s after op first links at all right are)

  pub pair_adds : AddsEntries old mid (expr_entries s first) → AddsEntries mid after (expr_entries s second)
      → AddsEntries old after (expr_entries s first ++ (expr_entries s second ++ []))
  pair_adds g h = adds_then old mid after (expr_entries s first) (expr_entries s second ++ []) g (subst (AddsEntries mid after) (sym (append-nil (expr_entries s second))) h)
