-- A name that is plain has bytes, so there is a text under its number.
use Rattle.std.proofs.Common.{◌≡◌, ◌<◌, ℕ, true, List, [], ◌∷◌, length, map, Option, Some, None, slice_get, unwrap_or, refl, subst}
use Rattle.std.specs.List.{AllByRecursion}
use Rattle.std.proofs.lemmas.Option.{slice_get_within}
use Rattle.std.proofs.lemmas.List.Elements.{All-from_recursion}
use Rattle.wf_ast.specs.declared.declarations.Var.{Var}
use Rattle.wf_ast.specs.declared.declarations.Method.{Method}
use Rattle.wf_ast.specs.declared.declarations.Struct.{Struct}
use Rattle.wf_ast.specs.declared.typed_code.Block as typed_code
use Rattle.wf_ast.specs.declared.typed_nodes.TypedNodes.{TypedNodes}
use Rattle.wf_ast.specs.TypedPackage.{variable_of, struct_of, methods_of, package_of}
use Rattle.wf_tokens.specs.Runs.{is_letter, begins}
use Rattle.wf_surfaces.specs.Names.{IsNamed}
use Rattle.wf_typed_laws.specs.PlainNames.{IsPlain, ArePlain, HasPlainFields, HasPlainVariables, NodesHaveNames}

has-text : (texts : List (List ℕ)) (n : ℕ) → IsPlain (unwrap_or (slice_get texts n) []) → n < length texts
has-text texts n plain = by_case (slice_get texts n) refl
  where
    by_case : (found : Option (List ℕ)) → slice_get texts n ≡ found → n < length texts
    by_case None e =
        let none : begins is_letter [] ≡ true = subst (λ (it : Option (List ℕ)). begins is_letter (unwrap_or it []) ≡ true) e plain.spelt.first in
        absurd (cc none)
    by_case (Some text) e = slice_get_within texts n text e

module _ (nodes : TypedNodes) where
  variables-named : (xs : List Var) → ArePlain (map (variable_of nodes) xs) → AllByRecursion (λ x. x.name.0 < length nodes.texts) xs
  variables-named [] a = tt
  variables-named (x ∷ xs) a = (has-text nodes.texts x.name.0 a.0, variables-named xs a.1)

  structs-named : (ss : List Struct) → AllByRecursion HasPlainFields (map (struct_of nodes) ss) → AllByRecursion (λ s. s.name.0 < length nodes.texts) ss
  structs-named [] a = tt
  structs-named (s ∷ ss) a = (has-text nodes.texts s.name.0 a.0.name, structs-named ss a.1)

  methods-named : (ms : List Method) (bodies : List typed_code.Block) → length bodies ≡ length ms → AllByRecursion HasPlainVariables (methods_of nodes ms bodies) → AllByRecursion (IsNamed (length nodes.texts)) ms
  methods-named [] bodies count a = tt
  methods-named (m ∷ ms) [] count a = absurd (cc count)
  methods-named (m ∷ ms) (body ∷ bodies) count a =
      let args = All-from_recursion (λ (x : Var). x.name.0 < length nodes.texts) m.args (variables-named m.args a.0.args) in
      let others : length bodies ≡ length ms = cc count in
      ((has-text nodes.texts m.name.0 a.0.name, args), methods-named ms bodies others a.1)

pub nodes_have_names : NodesHaveNames
unfolding package_of
nodes_have_names nodes typed plain =
    record {
      structs = All-from_recursion (λ (s : Struct). s.name.0 < length nodes.texts) nodes.structs (structs-named nodes nodes.structs plain.structs);
      methods = All-from_recursion (IsNamed (length nodes.texts)) nodes.methods (methods-named nodes nodes.methods nodes.bodies typed.bodied plain.methods);
    }
