-- Where a parsed expression or type stands, there stands the resolved one.
use Rattle.std.proofs.Common.{ℕ, List, [], ◌∷◌, Option, None, Some, IfSome, bytes_eq, map}
use Rattle.std.specs.List.{AllByRecursion, find}
use Rattle.wf_text.specs.declared.place.Place.{Place}
use Rattle.wf_base.specs.BaseTable.{row_of}
use Rattle.wf_ast.specs.declared.parsed.Receiver.{Receiver}
use Rattle.wf_ast.specs.declared.parsed.Receiver.TheVariants as receivers
use Rattle.wf_ast.specs.ParsedTree as parsed
use Rattle.wf_ast.specs.ParsedTree.{ExprTree, PartTree, LinkTrees, GivenTrees, CallTree, TypeTree, BoundsTree}
use Rattle.wf_named.specs.NamedTree.{NamedArgTrees}
use Rattle.wf_names_rules.specs.declared.callees.Callee.{Callee}
use Rattle.wf_names_rules.specs.declared.callees.Callee.TheVariants as callees
use Rattle.wf_names_rules.specs.Declarations.{is_spelt}
use Rattle.wf_names_resolve.specs.Standing.{Standing}
use Rattle.wf_names_resolve.specs.Resolved.{NamedGiven, callee_at, with_arg, args_named, args_spelt, args_for, resolved_expr, resolved_part, resolved_links, resolved_given, resolved_call, resolved_type, resolved_bounds}
use Rattle.wf_read_laws.specs.Places as written
use Rattle.wf_read_laws.specs.NamedPlaces.{CalleeIsIn, ExprIsIn, EndIsIn, LinksAreIn, ArgsAreIn, CallIsIn, TypeIsIn, BoundsAreIn}
use Rattle.wf_read_laws.proofs.PlaceLemmas.{find-in}

-- A value under its name.
abbrev pub GivenIsIn : (Place → Type 0) → NamedGiven → Type 0
GivenIsIn In g = In g.name.at × ExprIsIn In g.value

module _ (In : Place → Type 0) where
  callee-in : (k : Standing) (on : Receiver) (found : Callee) → written.ReceiverIsIn In on → CalleeIsIn In (callee_at k on found)
  callee-in k (receivers.This at) (callees.Own m) h = tt
  callee-in k (receivers.This at) (callees.Hidden m) h = tt
  callee-in k (receivers.This at) (callees.Base sig) h = tt
  callee-in k (receivers.This at) callees.Foreign h = tt
  callee-in k (receivers.This at) callees.Missing h = tt
  callee-in k (receivers.This at) callees.Baseless h = tt
  callee-in k (receivers.Path path) (callees.Own m) h = tt
  callee-in k (receivers.Path path) (callees.Hidden m) h = tt
  callee-in k (receivers.Path path) (callees.Base sig) h = h.1
  callee-in k (receivers.Path path) callees.Foreign h = tt
  callee-in k (receivers.Path path) callees.Missing h = tt
  callee-in k (receivers.Path path) callees.Baseless h = tt

  with-arg-in : (found : Option NamedGiven) (others : NamedArgTrees) → IfSome found (GivenIsIn In) → ArgsAreIn In others → ArgsAreIn In (with_arg found others)
  with-arg-in None others h k = k
  with-arg-in (Some g) others h k = (h.1, k)

  args-named-in : (given : List NamedGiven) (wanted : List ℕ) → AllByRecursion (GivenIsIn In) given → ArgsAreIn In (args_named given wanted)
  args-named-in given [] a = tt
  args-named-in given (text ∷ texts) a =
      with-arg-in (find (λ g. is_spelt text g.name) given) (args_named given texts) (find-in (GivenIsIn In) (λ g. is_spelt text g.name) given a) (args-named-in given texts a)

  args-spelt-in : (bytes : ℕ → List ℕ) (given : List NamedGiven) (wanted : List (List ℕ)) → AllByRecursion (GivenIsIn In) given → ArgsAreIn In (args_spelt bytes given wanted)
  args-spelt-in bytes given [] a = tt
  args-spelt-in bytes given (name ∷ names) a =
      with-arg-in (find (λ g. bytes_eq name (bytes g.name.text.0)) given) (args_spelt bytes given names)
      (find-in (GivenIsIn In) (λ g. bytes_eq name (bytes g.name.text.0)) given a) (args-spelt-in bytes given names a)

  args-in : (k : Standing) (found : Callee) (given : List NamedGiven) → AllByRecursion (GivenIsIn In) given → ArgsAreIn In (args_for k found given)
  args-in k (callees.Own m) given a = args-named-in given (k.args m) a
  args-in k (callees.Base sig) given a = args-spelt-in k.bytes given (map (λ arg. arg.0) (row_of sig).args) a
  args-in k (callees.Hidden m) given a = tt
  args-in k callees.Foreign given a = tt
  args-in k callees.Missing given a = tt
  args-in k callees.Baseless given a = tt

  module _ (k : Standing) where
    mutual
      pub expr-in : (e : ExprTree) → written.ExprIsIn In e → ExprIsIn In (resolved_expr k e)
      expr-in (parsed.number value at) h = h
      expr-in (parsed.own_status text) h = h
      expr-in (parsed.base_status text at) h = h.1
      expr-in (parsed.fine at) h = h
      expr-in (parsed.truth value at) h = h
      expr-in (parsed.path path) h = h.1
      expr-in (parsed.index base place at) h = (h.0.1, expr-in place h.1, h.2)
      expr-in (parsed.slice base from to at) h = (h.0.1, part-in from h.1, part-in to h.2, h.3)
      expr-in (parsed.answer c) h = call-in c h
      expr-in (parsed.chain op first links at) h = (expr-in first h.0, links-in links h.1, h.2)
      expr-in (parsed.convert of to at) h = (expr-in of h.0, type-in to h.1, h.2)
      expr-in (parsed.negation of at) h = (expr-in of h.0, h.1)

      pub part-in : (p : PartTree) → written.PartIsIn In p → EndIsIn In (resolved_part k p)
      part-in parsed.absent h = tt
      part-in (parsed.present part) h = expr-in part h

      links-in : (ls : LinkTrees) → written.LinksAreIn In ls → LinksAreIn In (resolved_links k ls)
      links-in parsed.no_link h = tt
      links-in (parsed.link sign operand others) h = (h.0, expr-in operand h.1, links-in others h.2)

      pub given-in : (gs : GivenTrees) → written.GivenAreIn In gs → AllByRecursion (GivenIsIn In) (resolved_given k gs)
      given-in parsed.no_given h = tt
      given-in (parsed.more_given name value others) h = ((h.0, expr-in value h.1), given-in others h.2)

      pub call-in : (c : CallTree) → written.CallIsIn In c → CallIsIn In (resolved_call k c)
      call-in (parsed.call on name mark given) h =
          (callee-in k on (k.callee on name.text.0) h.0, h.1, args-in k (k.callee on name.text.0) (resolved_given k given) (given-in given h.2))

      pub type-in : (t : TypeTree) → written.TypeIsIn In t → TypeIsIn In (resolved_type k t)
      type-in (parsed.slice_of at element) h = (h.0, type-in element h.1)
      type-in (parsed.array_of length at element) h = (expr-in length h.0, h.1, type-in element h.2)
      type-in (parsed.base_type name at bounds) h = (h.1, bounds-in bounds h.2)
      type-in (parsed.status_type at bounds) h = (h.0, bounds-in bounds h.1)
      type-in (parsed.struct_type name) h = h

      bounds-in : (b : BoundsTree) → written.BoundsAreIn In b → BoundsAreIn In (resolved_bounds k b)
      bounds-in parsed.unrefined h = tt
      bounds-in (parsed.refined low high) h = (part-in low h.0, expr-in high h.1)
