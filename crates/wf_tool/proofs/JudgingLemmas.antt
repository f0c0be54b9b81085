-- From a package that is resolved to one that is read, and from this to the verdict on its files.
use Rattle.std.proofs.Common.{◌≡◌, ◌⊎◌, ◌+◌, ◌&&◌, ℕ, suc, Bool, true, false, not, bytes_eq, codes, List, [], ◌∷◌, length, Option, None, Some, Result, Ok, Err, IfOk, IfErr, inl, inr, refl, sym, ap, ◌∙◌, subst, arith}
use Rattle.std.specs.List.{list_all}
use Rattle.std.proofs.lemmas.Bool.Decides.{nat_tests}
use Rattle.wf_text.specs.declared.faults.PhaseFault.{PhaseFault}
use Rattle.wf_text.specs.declared.faults.PhaseFault.TheVariants as phase
use Rattle.wf_text.specs.declared.rules.Refusal.{Refusal}
use Rattle.wf_text.specs.Precedence.{Decides, IsFirst}
use Rattle.wf_text.proofs.PrecedenceLaws.{Decides-map}
use Rattle.wf_ast.specs.ParsedParts.{Parsed}
use Rattle.wf_ast.specs.ParsedTree.{DeclTree, status, constant, structure, method}
use Rattle.wf_ast.specs.declared.typed_nodes.TypedNodes.{TypedNodes}
use Rattle.wf_ast.specs.declared.declarations.Method.{Method}
use Rattle.wf_ast.specs.declared.typed_code.Block as typed_code
use Rattle.wf_ast.specs.TypedPackage as typed
use Rattle.wf_ast.specs.TypedPackage.{PackageTree, package_of}
use Rattle.wf_ast.specs.ReadPackage.{decls_of}
use Rattle.wf_parse.specs.Parsing.{IsParsed}
use Rattle.wf_named.specs.NamedParts.{NamedParts, named_package}
use Rattle.wf_named.specs.NamedTree.{NamedMethodTree, NamedPackageTree}
use Rattle.wf_names_rules.specs.Declarations.{Declared, declared, methods_of}
use Rattle.wf_names.specs.Naming.{IsResolved}
use Rattle.wf_names_resolve.specs.Package.{resolved_methods}
use Rattle.wf_names_laws.specs.Ordered.{HasOrder}
use Rattle.wf_types_rules.specs.TypeRules.{Breaks}
use Rattle.wf_typed_tree.specs.ElaboratedStmts.{count_block}
use Rattle.wf_typed_tree.specs.ElaboratedPackage.{typed_methods, typed_package}
use Rattle.wf_types.specs.Typing.{IsMistyped, IsElaborated}
use Rattle.wf_points.specs.PointNumbers.{HasTooMany}
use Rattle.wf_bounds_stmts.specs.MethodRules.{facts_refusal}
use Rattle.wf_bounds.specs.Acceptance.{AcceptedPackage, IsAccepted, IsRefusedFor}
use Rattle.wf_tokens.specs.Runs.{is_run}
use Rattle.wf_lower_laws.proofs.JumpLaw.{texts_jump_forward}
use Rattle.wf_lower_laws.proofs.TextWhiles.{texts_loop_alike}
use Rattle.wf_lower_formed_laws.proofs.AcceptedForm.{read_texts_are_formed}
use Rattle.wf_lower_depth_laws.proofs.ReadTexts.{read_texts_are_shallow}
use Rattle.wf_lower_names.specs.SpeltNodes.{IsPlainPackage}
use Rattle.wf_lower_names.proofs.SpeltNodes.{nodes_are_spelt}
use Rattle.wf_typed_laws.proofs.NodeNames.{nodes_have_names}
use Rattle.wf_typed_laws.proofs.Owners.{read_methods_have_owners}
use Rattle.wf_typed_laws.proofs.StatusTexts.{read_statuses_are_plain}
use Rattle.wf_typed_laws.proofs.TypedNames.{read_names_are_plain}
use Rattle.wf_bounds_laws.specs.BoundsRules.{bounds_refusal, BreaksPoints}
use Rattle.wf_bounds_laws.proofs.AnyOrder.{bounds_ignore_order, points_ignore_order}
use Rattle.wf_bounds_laws.proofs.TypedBounds.{typing_keeps_bounds, typing_keeps_points}
use Rattle.wf_tool.specs.Sizes.{too_large}
use Rattle.wf_tool.specs.Runs.{IsAcceptedAs}
use Rattle.wf_tool.specs.Taken.{HasLawfulText, Judges, RefusesTyped, JudgesNamed, JudgesRead}
use Rattle.wf_tool.specs.Verdict as verdicts
use Rattle.wf_tool.specs.Verdict.{BreaksTypes, resolved, misnamed, mistyped}
use Rattle.wf_tool.specs.Soundness.{in_order}
use Rattle.wf_tool.specs.Words.{is_package_byte, is_package_name}
use Rattle.wf_tool.proofs.OrderLemmas.{any-order}
use Rattle.wf_tool.proofs.SoundVerdicts.{accepted-runs}

-- A package has as many methods as its nodes.
methods-made : (nodes : TypedNodes) (ms : List Method) (bodies : List typed_code.Block) → length bodies ≡ length ms → length (typed.methods_of nodes ms bodies) ≡ length ms
methods-made nodes [] bodies count = refl
methods-made nodes (m ∷ ms) [] count = absurd (cc count)
methods-made nodes (m ∷ ms) (body ∷ bodies) count =
    let others : length bodies ≡ length ms = cc count in
    ap suc (methods-made nodes ms bodies others)

pub methods-told : (nodes : TypedNodes) → length nodes.bodies ≡ length nodes.methods → length nodes.methods ≡ length (package_of nodes).methods
unfolding package_of
methods-told nodes bodied = sym (methods-made nodes nodes.methods nodes.bodies bodied)

-- What the phase of types refuses is refused.
pub mistyped-judged : (named : NamedParts) (fault : PhaseFault) → IsMistyped named fault → JudgesNamed (named_package named) (Err fault)
mistyped-judged named (phase.Refused refusal) h = inl h
mistyped-judged named phase.Memory h = tt

-- What the phase of bounds says of the typed nodes of a package it says of the package.
module _ (named : NamedParts) (typed : TypedNodes) (is : IsElaborated named typed) where
  bounded-judged : (a : AcceptedPackage) → IsAccepted a → a.nodes ≡ typed → JudgesNamed (named_package named) (Ok a)
  bounded-judged a accepted same =
      let F : TypedNodes → Type 0 = λ t. facts_refusal t ≡ None in
      let D : TypedNodes → Type 0 = λ t. Decides (HasTooMany (package_of t)) None in (
        is.kept,
        sym (typing_keeps_bounds named typed is) ∙ subst F same accepted.bounds,
        typing_keeps_points named typed is None (subst D same accepted.few),
        ap package_of same ∙ is.tree,
        accepted.typed,
      )

  refuses-typed : (refusal : Refusal) → IsRefusedFor typed (phase.Refused refusal) → RefusesTyped (named_package named) refusal
  refuses-typed refusal h = elim h [
    | inl found ↦ inl (sym (typing_keeps_bounds named typed is) ∙ found)
    | inr points ↦ inr (sym (typing_keeps_bounds named typed is) ∙ points.0, typing_keeps_points named typed is (Some refusal) points.1)
  ]

  refused-judged : (fault : PhaseFault) → IsRefusedFor typed fault → JudgesNamed (named_package named) (Err fault)
  refused-judged (phase.Refused refusal) h = inr (is.kept, refuses-typed refusal h)
  refused-judged phase.Memory h = tt

  pub checked-judged : (result : Result AcceptedPackage PhaseFault) → IfOk result (λ a. a.nodes ≡ typed) → IfOk result IsAccepted → IfErr result (IsRefusedFor typed) → JudgesNamed (named_package named) result
  checked-judged (Ok a) same accepted refused = bounded-judged a accepted same
  checked-judged (Err fault) same accepted refused = refused-judged fault refused

-- As many methods are resolved as are declared.
methods-counted : (d : Declared) (decls : List DeclTree) → length (resolved_methods d decls) ≡ length (methods_of decls)
methods-counted d [] = refl
methods-counted d (status public text at ∷ decls) = methods-counted d decls
methods-counted d (constant public name of value at ∷ decls) = methods-counted d decls
methods-counted d (structure public name mark fields at ∷ decls) = methods-counted d decls
methods-counted d (method public owner name mark args result body at ∷ decls) = ap suc (methods-counted d decls)

module _ (read : Parsed) where
  -- What decides of the resolved package decides of the one that is read.
  types-decide : (order struct_order : List ℕ) (found : Option Refusal) → Decides (Breaks (in_order read order struct_order)) found → Decides (BreaksTypes read) found
  types-decide order struct_order found h =
      Decides-map (Breaks (in_order read order struct_order)) (BreaksTypes read) found (any-order read.name read.texts (decls_of read) order struct_order [] []) (any-order read.name read.texts (decls_of read) [] [] order struct_order) h

  -- And so it is of bounds and of points.
  bounds-decide : (order struct_order : List ℕ) → bounds_refusal (in_order read order struct_order) ≡ bounds_refusal (resolved read)
  bounds-decide order struct_order = bounds_ignore_order (resolved read) order struct_order

  points-decide : (order struct_order : List ℕ) (found : Option Refusal) → Decides (BreaksPoints (in_order read order struct_order)) found → Decides (verdicts.BreaksPoints read) found
  points-decide order struct_order found h =
      Decides-map (BreaksPoints (in_order read order struct_order)) (verdicts.BreaksPoints read) found (points_ignore_order (resolved read) order struct_order) (points_ignore_order (in_order read order struct_order) [] []) h

  refuses-ordered : (order struct_order : List ℕ) (refusal : Refusal) → RefusesTyped (in_order read order struct_order) refusal → RefusesTyped (resolved read) refusal
  refuses-ordered order struct_order refusal h = elim h [
    | inl found ↦ inl (sym (bounds-decide order struct_order) ∙ found)
    | inr points ↦ inr (sym (bounds-decide order struct_order) ∙ points.0, points-decide order struct_order (Some refusal) points.1)
  ]

  ordered-judged : (order struct_order : List ℕ) (result : Result AcceptedPackage PhaseFault) → verdicts.KeepsNames read → HasOrder (in_order read order struct_order) → JudgesNamed (in_order read order struct_order) result → JudgesRead read result
  ordered-judged order struct_order (Ok a) names ordered h = (
    names,
    types-decide order struct_order None h.0,
    sym (bounds-decide order struct_order) ∙ h.1,
    points-decide order struct_order None h.2,
    record { order = order; struct_order = struct_order; ordered = ordered; tree = h.3 },
    h.4,
  )
  ordered-judged order struct_order (Err (phase.Refused refusal)) names ordered h = elim h [
    | inl first ↦ inr (inl (names, types-decide order struct_order (Some refusal) first))
    | inr t ↦ inr (inr (names, types-decide order struct_order None t.0, refuses-ordered order struct_order refusal t.1))
  ]
  ordered-judged order struct_order (Err phase.Memory) names ordered h = tt

  pub named-judged : (named : NamedParts) (result : Result AcceptedPackage PhaseFault) → IsResolved read named → JudgesNamed (named_package named) result → JudgesRead read result
  named-judged named result is h =
      let J : NamedPackageTree → Type 0 = λ p. JudgesNamed p result in
      let O : NamedPackageTree → Type 0 = HasOrder in
      ordered-judged is.order is.struct_order result is.kept (subst O is.tree is.ordered) (subst J is.tree h)

-- As many methods are typed as are resolved.
typed-long : (p : NamedPackageTree) (n : ℕ) (ms : List NamedMethodTree) → length (typed_methods p n ms) ≡ length ms
typed-long p n [] = refl
typed-long p n (m ∷ ms) = ap suc (typed-long p (n + count_block m.body) ms)

pub typed-counted : (read : Parsed) (order struct_order : List ℕ) → length (typed_package (in_order read order struct_order)).methods ≡ verdicts.method_count read
unfolding typed_package
typed-counted read order struct_order =
    typed-long (in_order read order struct_order) 0 (in_order read order struct_order).methods ∙ methods-counted (declared read.texts (decls_of read)) (decls_of read)

typed-name : (read : Parsed) (order struct_order : List ℕ) → (typed_package (in_order read order struct_order)).package_name ≡ read.name
unfolding typed_package
typed-name read order struct_order = refl

-- A package's name is made of letters, digits and `_`.
and-both : (a b : Bool) → (a && b) ≡ true → (a ≡ true) × (b ≡ true)
and-both true true h = (refl, refl)
and-both true false h = absurd (cc h)
and-both false b h = absurd (cc h)

byte-run : (b : ℕ) → is_package_byte b ≡ true → is_run b ≡ true
byte-run b h = grind (arith, nat_tests, h)

bytes-run : (name : List ℕ) → list_all is_package_byte name ≡ true → list_all is_run name ≡ true
bytes-run [] h = refl
bytes-run (b ∷ name) h =
    let both = and-both (is_package_byte b) (list_all is_package_byte name) h in
    let first = byte-run b both.0 in
    let others = bytes-run name both.1 in
    rw (first, others) refl

package-run : (name : List ℕ) → is_package_name name ≡ true → list_all is_run name ≡ true
package-run name h = bytes-run name (and-both _ _ (and-both _ _ h).0).1

not-false : (b : Bool) → not b ≡ true → b ≡ false
not-false true h = absurd (cc h)
not-false false h = refl

not-base : (name : List ℕ) → is_package_name name ≡ true → bytes_eq name (codes "base") ≡ false
not-base name h = not-false (bytes_eq name (codes "base")) (and-both _ _ h).1

pub read-judged : (name : List ℕ) (files : List (List ℕ)) (read : Parsed) (result : Result AcceptedPackage PhaseFault) → is_package_name name ≡ true
    → too_large files ≡ None → IsParsed name files read → JudgesRead read result → Judges name files result
read-judged name files read (Ok a) named sized parsed h = (accepted_as, nodes_have_names a.nodes h.5 plain.names, nodes_are_spelt a.nodes h.5 plain, lawful)
  where
    few : Decides (HasTooMany (package_of a.nodes)) None
    few = λ refusal broken.
        let P : PackageTree → Type 0 = λ p. HasTooMany p refusal in
        h.3 refusal (points_ignore_order (resolved read) h.4.order h.4.struct_order refusal (subst P h.4.tree broken))

    lawful : HasLawfulText (package_of a.nodes)
    lawful = record {
      lowered = record {
        form = read_texts_are_formed name files read parsed h.0 (not-base name named) h.4.order h.4.struct_order a.nodes h.4.tree h.5 few;
        shallow = read_texts_are_shallow name files read parsed h.4.order h.4.struct_order (package_of a.nodes) h.4.tree;
      };
      forward = texts_jump_forward a.nodes h.5;
      loops = texts_loop_alike (package_of a.nodes) h.5.rules;
    }

    accepted : verdicts.IsAccepted name files (length (package_of a.nodes).methods)
    accepted = record {
      sized = sized;
      read = read;
      parsed = parsed;
      names = h.0;
      types = h.1;
      bounds = h.2;
      points = h.3;
      counted = ap (λ (p : PackageTree). length p.methods) h.4.tree ∙ typed-counted read h.4.order h.4.struct_order;
    }

    accepted_as : IsAcceptedAs name files (package_of a.nodes)
    accepted_as = record {
      verdict = accepted;
      runs = accepted-runs name files (length (package_of a.nodes).methods) accepted (h.4.order, h.4.struct_order, h.4.ordered);
      order = h.4.order;
      struct_order = h.4.struct_order;
      ordered = h.4.ordered;
      tree = h.4.tree;
    }

    plain : IsPlainPackage (package_of a.nodes)
    plain =
        let run = package-run name named in
        let called : list_all is_run (typed_package (in_order read h.4.order h.4.struct_order)).package_name ≡ true = ap (list_all is_run) (typed-name read h.4.order h.4.struct_order ∙ parsed.named) ∙ run in
        let typed : IsPlainPackage (typed_package (in_order read h.4.order h.4.struct_order)) = record {
          name = called;
          names = read_names_are_plain name files read parsed h.0 h.4.order h.4.struct_order;
          texts = read_statuses_are_plain name files read parsed run h.1 h.4.order h.4.struct_order;
          owners = read_methods_have_owners name files read parsed h.0 h.4.order h.4.struct_order;
        } in
        subst IsPlainPackage (sym h.4.tree) typed
read-judged name files read (Err (phase.Refused refusal)) named sized parsed h = elim h [
  | inl first ↦ misnamed (record { sized = sized; read = read; parsed = parsed; decides = first })
  | inr other ↦ later-judged other
]
  where
    typed-judged : verdicts.KeepsNames read → verdicts.KeepsTypes read → RefusesTyped (resolved read) refusal → verdicts.IsRefused name files refusal
    typed-judged names types (inl found) = verdicts.out_of_bounds (record { sized = sized; read = read; parsed = parsed; names = names; types = types; first = found })
    typed-judged names types (inr points) =
        verdicts.has_too_many_points (record { sized = sized; read = read; parsed = parsed; names = names; types = types; bounds = points.0; decides = points.1 })

    later-judged : ((verdicts.KeepsNames read × IsFirst (BreaksTypes read) refusal) ⊎ (verdicts.KeepsNames read × verdicts.KeepsTypes read × RefusesTyped (resolved read) refusal)) → verdicts.IsRefused name files refusal
    later-judged (inl t) = mistyped (record { sized = sized; read = read; parsed = parsed; names = t.0; decides = t.1 })
    later-judged (inr t) = typed-judged t.0 t.1 t.2
read-judged name files read (Err phase.Memory) named sized parsed h = tt
