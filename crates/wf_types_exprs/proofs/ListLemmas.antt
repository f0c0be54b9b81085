-- Operands and arguments, one after the other.
use Rattle.std.proofs.Common.{◌≡◌, ◌∙◌, refl, sym, ap, ℕ, ◌+◌, ◌<◌, Bool, true, false, ◌&&◌, List, [], ◌∷◌, ◌++◌, length, drop, slice_index_or, Option, Some, None, option_map, add-one, drop-cons}
use Rattle.std.proofs.lemmas.List.{append_assoc}
use Rattle.wf_text.specs.declared.place.Place.{Place}
use Rattle.wf_text.specs.declared.rules.Refusal.{Refusal}
use Rattle.wf_ast.specs.declared.numbers.ExprId.{ExprId}
use Rattle.wf_ast.specs.declared.parsed.Link.{Link}
use Rattle.wf_named.specs.declared.nodes.NamedCallee.{NamedCallee}
use Rattle.wf_named.specs.declared.nodes.NamedPath.{NamedPath}
use Rattle.wf_named.specs.NamedTree.{NamedExprTree, number, status, truth, path, index, slice, answer, chain, convert, negation, NamedLinkTrees, NamedArgTrees, more_args}
use Rattle.wf_named.specs.NamedTrees.{expr_at, links_at, args_at}
use Rattle.wf_types_rules.specs.declared.meanings.Meaning.{Meaning}
use Rattle.wf_types_rules.specs.declared.meanings.Operand.{Operand}
use Rattle.wf_types_rules.specs.declared.settings.Setting.{Setting}
use Rattle.wf_types_rules.specs.Meanings.{place_of}
use Rattle.wf_types_rules.specs.ExprTypes.{in_front, operand_at, meaning, operands_behind, operands}
use Rattle.wf_types_rules.specs.Judgements.{value_of, wanted, meaning_of_argument, argument_value, is_argument, are_arguments}
use Rattle.wf_types_rules.specs.Parts.{argument, expr_parts, links_parts, args_parts}
use Rattle.wf_types_exprs.specs.Judged.{judged, argument_parts, operand_pushed, operand_behind, operands_joined}
use Rattle.wf_types_exprs.specs.Paths.{path_in}
use Rattle.wf_types_exprs.proofs.JudgedLaws.{judged-append}

pub drop-one : {X : Type 0} (xs : List X) (i : ℕ) (d : X) → i < length xs → drop i xs ≡ slice_index_or xs i d ∷ drop (i + 1) xs
drop-one xs i d h = rw (add-one, drop-cons xs i d) refl

pushed-joined : (os : List Operand) (at : Place) (m : Option Meaning) (rest : Option (List Operand))
    → operands_joined (operand_pushed os at m) rest ≡ operands_joined (Some os) (in_front (option_map (operand_at at) m) rest)
pushed-joined os at None None = refl
pushed-joined os at None (Some rest) = refl
pushed-joined os at (Some m) None = refl
pushed-joined os at (Some m) (Some rest) = ap Some (append_assoc os (record { at = at; of = m } ∷ []) rest)

behind-joined : (os : Option (List Operand)) (at : Place) (m : Option Meaning) (rest : Option (List Operand))
    → operands_joined (operand_behind os (record { of = m; at = at })) rest ≡ operands_joined os (in_front (option_map (operand_at at) m) rest)
behind-joined None at m rest = refl
behind-joined (Some os) at m rest = pushed-joined os at m rest

joined-some : (rest : Option (List Operand)) → operands_joined (Some []) rest ≡ rest
joined-some None = refl
joined-some (Some rest) = refl

-- The first operand, then those after it.
pub operands_begun : (s : Setting) (first : NamedExprTree) (links : NamedLinkTrees) (begun : Option (List Operand)) → begun ≡ operand_behind (Some []) (value_of s first)
    → operands_joined begun (operands_behind s links) ≡ operands s first links
operands_begun s first links begun e =
    ap (λ b. operands_joined b (operands_behind s links)) e ∙ behind-joined (Some []) (place_of first) (meaning s first) (operands_behind s links)
    ∙ joined-some (operands s first links)

module _ (s : Setting) (ts : List NamedExprTree) (ls : List Link) (i : ℕ) (d : Link) (h : i < length ls) where
  pub link_found : (before next : Option Refusal) → next ≡ judged s before (expr_parts (expr_at ts (slice_index_or ls i d).operand))
      → judged s next (links_parts (links_at ts (drop (i + 1) ls))) ≡ judged s before (links_parts (links_at ts (drop i ls)))
  link_found before next e =
      ap (λ f. judged s f (links_parts (links_at ts (drop (i + 1) ls)))) e
      ∙ sym (judged-append s before (expr_parts (expr_at ts (slice_index_or ls i d).operand)) (links_parts (links_at ts (drop (i + 1) ls))))
      ∙ sym (ap (λ xs. judged s before (links_parts (links_at ts xs))) (drop-one ls i d h))

  pub link_joined : (before next : Option (List Operand)) → next ≡ operand_behind before (value_of s (expr_at ts (slice_index_or ls i d).operand))
      → operands_joined next (operands_behind s (links_at ts (drop (i + 1) ls))) ≡ operands_joined before (operands_behind s (links_at ts (drop i ls)))
  link_joined before next e =
      let o = expr_at ts (slice_index_or ls i d).operand in
      ap (λ b. operands_joined b (operands_behind s (links_at ts (drop (i + 1) ls)))) e
      ∙ behind-joined before (place_of o) (meaning s o) (operands_behind s (links_at ts (drop (i + 1) ls)))
      ∙ sym (ap (λ xs. operands_joined before (operands_behind s (links_at ts xs))) (drop-one ls i d h))

-- An argument that is a path, and any other.
pub path_of_expr : (e : NamedExprTree) (p : NamedPath) → path_in e ≡ Some p → e ≡ path p
path_of_expr (path q) p h = ap path (let same : q ≡ p = cc h in same)
path_of_expr (number v at) p h = absurd (cc h)
path_of_expr (status n at) p h = absurd (cc h)
path_of_expr (truth v at) p h = absurd (cc h)
path_of_expr (index b i at) p h = absurd (cc h)
path_of_expr (slice b from to at) p h = absurd (cc h)
path_of_expr (answer c) p h = absurd (cc h)
path_of_expr (chain op first links at) p h = absurd (cc h)
path_of_expr (convert e t at) p h = absurd (cc h)
path_of_expr (negation e at) p h = absurd (cc h)

pub value_of_argument : (s : Setting) (e : NamedExprTree) → path_in e ≡ None → value_of s e ≡ argument_value s e
value_of_argument s (path q) h = absurd (cc h)
value_of_argument s (number v at) h = refl
value_of_argument s (status n at) h = refl
value_of_argument s (truth v at) h = refl
value_of_argument s (index b i at) h = refl
value_of_argument s (slice b from to at) h = refl
value_of_argument s (answer c) h = refl
value_of_argument s (chain op first links at) h = refl
value_of_argument s (convert e t at) h = refl
value_of_argument s (negation e at) h = refl

pub parts_of_argument : (callee : NamedCallee) (n : ℕ) (e : NamedExprTree) → path_in e ≡ None → argument_parts callee n e ≡ argument callee n e ∷ expr_parts e
parts_of_argument callee n (path q) h = absurd (cc h)
parts_of_argument callee n (number v at) h = refl
parts_of_argument callee n (status k at) h = refl
parts_of_argument callee n (truth v at) h = refl
parts_of_argument callee n (index b i at) h = refl
parts_of_argument callee n (slice b from to at) h = refl
parts_of_argument callee n (answer c) h = refl
parts_of_argument callee n (chain op first links at) h = refl
parts_of_argument callee n (convert e t at) h = refl
parts_of_argument callee n (negation e at) h = refl

args_parts-more : (callee : NamedCallee) (n : ℕ) (e : NamedExprTree) (others : NamedArgTrees)
    → args_parts callee n (more_args e others) ≡ argument_parts callee n e ++ args_parts callee (n + 1) others
args_parts-more callee n (path q) others = refl
args_parts-more callee n (number v at) others = refl
args_parts-more callee n (status k at) others = refl
args_parts-more callee n (truth v at) others = refl
args_parts-more callee n (index b i at) others = refl
args_parts-more callee n (slice b from to at) others = refl
args_parts-more callee n (answer c) others = refl
args_parts-more callee n (chain op first links at) others = refl
args_parts-more callee n (convert e t at) others = refl
args_parts-more callee n (negation e at) others = refl

and_and : (a b c : Bool) → ((a && b) && c) ≡ (a && (b && c))
and_and true b c = refl
and_and false b c = refl

module _ (s : Setting) (ts : List NamedExprTree) (callee : NamedCallee) (es : List ExprId) (i : ℕ) (d : ExprId) (h : i < length es) where
  pub arg_found : (before next : Option Refusal) → next ≡ judged s before (argument_parts callee i (expr_at ts (slice_index_or es i d)))
      → judged s next (args_parts callee (i + 1) (args_at ts (drop (i + 1) es))) ≡ judged s before (args_parts callee i (args_at ts (drop i es)))
  arg_found before next e =
      let a = expr_at ts (slice_index_or es i d) in
      let others = args_at ts (drop (i + 1) es) in
      ap (λ f. judged s f (args_parts callee (i + 1) others)) e
      ∙ sym (judged-append s before (argument_parts callee i a) (args_parts callee (i + 1) others))
      ∙ sym (ap (judged s before) (args_parts-more callee i a others))
      ∙ sym (ap (λ xs. judged s before (args_parts callee i (args_at ts xs))) (drop-one es i d h))

  pub args_fit : (before next : Bool) → next ≡ is_argument (wanted s callee i) (meaning_of_argument s (expr_at ts (slice_index_or es i d)))
      → ((before && next) && are_arguments s callee (i + 1) (args_at ts (drop (i + 1) es))) ≡ (before && are_arguments s callee i (args_at ts (drop i es)))
  args_fit before next e =
      let others = args_at ts (drop (i + 1) es) in
      and_and before next (are_arguments s callee (i + 1) others) ∙ ap (λ n. before && (n && are_arguments s callee (i + 1) others)) e
      ∙ ap (λ k. before && (is_argument (wanted s callee i) (meaning_of_argument s (expr_at ts (slice_index_or es i d))) && are_arguments s callee k others)) (add-one i)
      ∙ sym (ap (λ xs. before && are_arguments s callee i (args_at ts xs)) (drop-one es i d h))
