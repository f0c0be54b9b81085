-- Expressions, calls and types whose names are used by the rules are resolved to what their names mean.
use Rattle.std.proofs.Common.{◌≡◌, ℕ, zero, suc, Bool, true, false, List, [], ◌∷◌, ◌++◌, map, Option, Some, None, slice_get, nat_eq, sym, ap, ◌∙◌, subst}
use Rattle.std.specs.List.{list_any}
use Rattle.wf_text.specs.Precedence.{Decides}
use Rattle.wf_text.specs.declared.place.Place.{Place}
use Rattle.wf_base.specs.BaseTable.{row_of}
use Rattle.wf_ast.specs.declared.parsed.Name.{Name}
use Rattle.wf_ast.specs.declared.parsed.Path.{Path}
use Rattle.wf_ast.specs.declared.parsed.Receiver.{Receiver}
use Rattle.wf_ast.specs.declared.parsed.Receiver.TheVariants as receivers
use Rattle.wf_ast.specs.ParsedParts.{AreDistinct}
use Rattle.wf_ast.specs.ParsedTree as parsed
use Rattle.wf_ast.specs.ParsedTree.{ExprTree, PartTree, LinkTrees, GivenTrees, CallTree, TypeTree, BoundsTree}
use Rattle.wf_named.specs.declared.nodes.NamedPath.{NamedPath}
use Rattle.wf_names_rules.specs.declared.callees.Callee.{Callee}
use Rattle.wf_names_rules.specs.declared.callees.Callee.TheVariants as callees
use Rattle.wf_names_rules.specs.Declarations.{Method, Declared, text_of}
use Rattle.wf_names_rules.specs.NameRules as rules
use Rattle.wf_names_rules.specs.NameRules.{Breaks}
use Rattle.wf_names_rules.specs.Meanings.{GivenValue, given_values, known_at, method_known, this_callee, callee_on, parameters_of, is_parameter, lacks_one}
use Rattle.wf_names_rules.specs.Uses as uses
use Rattle.wf_names_rules.specs.Uses.{Use, Scope, receiver_uses, uses_of, part_uses, link_uses, given_uses, call_uses, type_uses, bounds_uses}
use Rattle.wf_names_uses.specs.Fitting.{is_open}
use Rattle.wf_names_resolve.specs.Standing.{standing_at}
use Rattle.wf_names_resolve.specs.Resolved.{number_or, base_status_number, callee_at, args_for, args_named, resolved_path, resolved_expr, resolved_part, resolved_links, resolved_given, resolved_call, resolved_type, resolved_bounds}
use Rattle.wf_names_laws.specs.Kept.{IsKept, AreKept}
use Rattle.wf_names_laws.proofs.ListLemmas.{all-front, all-behind}
use Rattle.wf_names_scope_laws.specs.Scoping.{CalleeMeans}
use Rattle.wf_names_scope_laws.specs.ResolvedExprs.{AreAllWanted, ResolvesExpr, ResolvesPart, ResolvesLinks, ResolvesCall, ResolvesArgs, ResolvesNamed, ResolvesType, ResolvesBounds}
use Rattle.wf_names_scope_laws.specs.ResolvedExprs as is
use Rattle.wf_names_scope_laws.proofs.Apart.{IsApart, args-apart}
use Rattle.wf_names_scope_laws.proofs.Callees.{callee-means}
use Rattle.wf_names_scope_laws.proofs.Given.{AreResolved, all-wanted, all-named, texts_given, names_of, args-same, given-once, named-resolved, spelt-resolved, base-args-there}
use Rattle.wf_names_scope_laws.proofs.Variables.{path-means, own-status-means, base-status-means, struct-means}

module _ (d : Declared) (h : Decides (Breaks d) None) (distinct : AreDistinct d.texts) (scope : Scope) (apart : IsApart d scope) where
  front : (us vs : List Use) → AreKept d scope (us ++ vs) → AreKept d scope us
  front us vs a = all-front (IsKept d scope) us vs a

  behind : (us vs : List Use) → AreKept d scope (us ++ vs) → AreKept d scope vs
  behind us vs a = all-behind (IsKept d scope) us vs a

  -- The arguments of a call.
  module _ (given : GivenTrees) (once : (later : Name) → rules.IsRepeated (map (λ (g : GivenValue). g.name) (given_values given)) later → ⊥) (all : AreResolved d scope given) where
    abbrev IsWhole : Callee → Type 0
    IsWhole callee = lacks_one (text_of d) (parameters_of (known_at d scope).args callee) (texts_given given) ≡ false

    -- Each value that is given is one of its arguments.
    abbrev IsWanted : Callee → Type 0
    IsWanted callee =
        (i : ℕ) (g : GivenValue) → slice_get (given_values given) i ≡ Some g → is_parameter (text_of d) (parameters_of (known_at d scope).args callee) g.name.text.0 ≡ true

    own-wanted : (n : ℕ) (m : Method) → slice_get d.methods n ≡ Some m → IsWanted (callees.Own n) → AreAllWanted m.args given
    own-wanted n m is wanted =
        let same = args-same d n m is (args-apart d h n m is) in
        all-wanted m.args given (λ i g e. ap (λ texts. list_any (nat_eq g.name.text.0) texts) (sym same) ∙ wanted i g e)

    own-args : (n : ℕ) (m : Method) → slice_get d.methods n ≡ Some m → IsWhole (callees.Own n) → ResolvesNamed d scope given m.args (args_for (standing_at d scope) (callees.Own n) (resolved_given (standing_at d scope) given))
    own-args n m is whole =
        let same = args-same d n m is (args-apart d h n m is) in
        let P : List ℕ → Type 0 = λ texts. ResolvesNamed d scope given m.args (args_named (resolved_given (standing_at d scope) given) texts) in
        let lacks : lacks_one (text_of d) (parameters_of (λ k. names_of m.args) (callees.Own n)) (texts_given given) ≡ false =
        ap (λ texts. lacks_one (text_of d) (parameters_of (λ k. texts) (callees.Own n)) (texts_given given)) (sym same) ∙ whole in
        subst P (sym same) (named-resolved d scope given (given-once given once) all m.args lacks)

    this-args : (at : Place) (text : ℕ) (o : Option ℕ) (elsewhere : Bool) → is_open (this_callee o elsewhere) ≡ true → IsWhole (this_callee o elsewhere) → IsWanted (this_callee o elsewhere)
        → CalleeMeans d scope (receivers.This at) text (callee_at (standing_at d scope) (receivers.This at) (this_callee o elsewhere))
        → ResolvesArgs d scope given (callee_at (standing_at d scope) (receivers.This at) (this_callee o elsewhere)) (args_for (standing_at d scope) (this_callee o elsewhere) (resolved_given (standing_at d scope) given))
    this-args at text (Some n) elsewhere k whole wanted means =
        is.of_own given n means.method (args_for (standing_at d scope) (callees.Own n) (resolved_given (standing_at d scope) given)) means.means.there (own-wanted n means.method means.means.there wanted)
        (own-args n means.method means.means.there whole)
    this-args at text None true k whole wanted means = absurd (cc k)
    this-args at text None false k whole wanted means = absurd (cc k)

    path-args : (path : Path) (text : ℕ) (callee : Callee) → is_open callee ≡ true → IsWhole callee → IsWanted callee
        → CalleeMeans d scope (receivers.Path path) text (callee_at (standing_at d scope) (receivers.Path path) callee)
        → ResolvesArgs d scope given (callee_at (standing_at d scope) (receivers.Path path) callee) (args_for (standing_at d scope) callee (resolved_given (standing_at d scope) given))
    path-args path text (callees.Own n) k whole wanted means =
        is.of_part given (number_or ((standing_at d scope).field path.name.text.0)) n means.method (args_for (standing_at d scope) (callees.Own n) (resolved_given (standing_at d scope) given)) means.means.there
        (own-wanted n means.method means.means.there wanted) (own-args n means.method means.means.there whole)
    path-args path text (callees.Base sig) k whole wanted means =
        is.of_base given (resolved_path (standing_at d scope) path) sig (args_for (standing_at d scope) (callees.Base sig) (resolved_given (standing_at d scope) given))
        (all-named d (map (λ arg. arg.0) (row_of sig).args) given wanted)
        (spelt-resolved d scope given (given-once given once) all distinct (map (λ arg. arg.0) (row_of sig).args) (base-args-there sig) whole)
    path-args path text (callees.Hidden m) k whole wanted means = absurd (cc k)
    path-args path text callees.Foreign k whole wanted means = absurd (cc k)
    path-args path text callees.Missing k whole wanted means = absurd (cc k)
    path-args path text callees.Baseless k whole wanted means = absurd (cc k)

    args-are : (on : Receiver) (text : ℕ) → is_open (callee_on (known_at d scope) on text) ≡ true → IsWhole (callee_on (known_at d scope) on text) → IsWanted (callee_on (known_at d scope) on text)
        → ResolvesArgs d scope given (callee_at (standing_at d scope) on (callee_on (known_at d scope) on text)) (args_for (standing_at d scope) (callee_on (known_at d scope) on text) (resolved_given (standing_at d scope) given))
    args-are (receivers.This at) text k whole wanted =
        this-args at text (method_known d scope.this text) ((known_at d scope).is_method text) k whole wanted (callee-means d h scope apart (receivers.This at) text k)
    args-are (receivers.Path path) text k whole wanted = path-args path text (callee_on (known_at d scope) (receivers.Path path) text) k whole wanted (callee-means d h scope apart (receivers.Path path) text k)

  abbrev path_of : Path → NamedPath
  path_of path = resolved_path (standing_at d scope) path

  mutual
    pub expr-is : (e : ExprTree) → AreKept d scope (uses_of e) → ResolvesExpr d scope e (resolved_expr (standing_at d scope) e)
    expr-is (parsed.number value at) a = is.a_number value at
    expr-is (parsed.own_status text) a = is.an_own_status text (number_or ((standing_at d scope).status text.text.0)) (own-status-means d h text.text.0 a.0)
    expr-is (parsed.base_status text at) a = is.a_base_status text at (base_status_number (text_of d text.text.0)) (base-status-means d text.text.0 a.0)
    expr-is (parsed.fine at) a = is.an_ok at
    expr-is (parsed.truth value at) a = is.a_truth value at
    expr-is (parsed.path path) a = is.a_path path (path_of path) (path-means d h scope apart path a.0)
    expr-is (parsed.index base place at) a = is.an_element base (path_of base) place (resolved_expr (standing_at d scope) place) at (path-means d h scope apart base a.0) (expr-is place a.1)
    expr-is (parsed.slice base from to at) a =
        is.a_slice base (path_of base) from to (resolved_part (standing_at d scope) from) (resolved_part (standing_at d scope) to) at (path-means d h scope apart base a.0)
        (part-is from (front (part_uses from) (part_uses to) a.1)) (part-is to (behind (part_uses from) (part_uses to) a.1))
    expr-is (parsed.answer c) a = is.an_answer c (resolved_call (standing_at d scope) c) (call-is c a)
    expr-is (parsed.chain op first links at) a =
        is.a_chain op first (resolved_expr (standing_at d scope) first) links (resolved_links (standing_at d scope) links) at
        (expr-is first (front (uses_of first) (link_uses links) a)) (links-are links (behind (uses_of first) (link_uses links) a))
    expr-is (parsed.convert of to at) a =
        is.a_conversion of (resolved_expr (standing_at d scope) of) to (resolved_type (standing_at d scope) to) at
        (expr-is of (front (uses_of of) (type_uses to) a)) (type-is to (behind (uses_of of) (type_uses to) a))
    expr-is (parsed.negation of at) a = is.a_negation of (resolved_expr (standing_at d scope) of) at (expr-is of a)

    pub part-is : (e : PartTree) → AreKept d scope (part_uses e) → ResolvesPart d scope e (resolved_part (standing_at d scope) e)
    part-is parsed.absent a = is.no_part
    part-is (parsed.present part) a = is.a_part part (resolved_expr (standing_at d scope) part) (expr-is part a)

    links-are : (ls : LinkTrees) → AreKept d scope (link_uses ls) → ResolvesLinks d scope ls (resolved_links (standing_at d scope) ls)
    links-are parsed.no_link a = is.no_links
    links-are (parsed.link sign operand others) a =
        is.more_links sign operand (resolved_expr (standing_at d scope) operand) others (resolved_links (standing_at d scope) others)
        (expr-is operand (front (uses_of operand) (link_uses others) a)) (links-are others (behind (uses_of operand) (link_uses others) a))

    pub given-are : (gs : GivenTrees) → AreKept d scope (given_uses gs) → AreResolved d scope gs
    given-are parsed.no_given a i g e = absurd (cc e)
    given-are (parsed.more_given name value others) a zero g e =
        let first : GivenValue = record { name = name; value = value } in
        let same : first ≡ g = cc e in
        let P : GivenValue → Type 0 = λ x. ResolvesExpr d scope x.value (resolved_expr (standing_at d scope) x.value) in
        subst P same (expr-is value (front (uses_of value) (given_uses others) a))
    given-are (parsed.more_given name value others) a (suc i) g e = given-are others (behind (uses_of value) (given_uses others) a) i g e

    pub call-is : (c : CallTree) → AreKept d scope (call_uses c) → ResolvesCall d scope c (resolved_call (standing_at d scope) c)
    call-is (parsed.call on name mark given) a =
        let c = parsed.call on name mark given in
        let b = behind (receiver_uses on) (given_uses given ++ uses.method c ∷ []) a in
        let fits = (behind (given_uses given) (uses.method c ∷ []) b).0 in
        let all = given-are given (front (given_uses given) (uses.method c ∷ []) b) in
        let k = standing_at d scope in
        let callee = callee_on (known_at d scope) on name.text.0 in
        is.a_call on name mark given (callee_at k on callee) (args_for k callee (resolved_given k given)) (callee-means d h scope apart on name.text.0 fits.open_here)
        (args-are given fits.once all on name.text.0 fits.open_here fits.whole fits.wanted)

    pub type-is : (t : TypeTree) → AreKept d scope (type_uses t) → ResolvesType d scope t (resolved_type (standing_at d scope) t)
    type-is (parsed.slice_of at element) a = is.a_slice_type at element (resolved_type (standing_at d scope) element) (type-is element a)
    type-is (parsed.array_of length at element) a =
        is.an_array_type length (resolved_expr (standing_at d scope) length) at element (resolved_type (standing_at d scope) element)
        (expr-is length (front (uses_of length) (type_uses element) a)) (type-is element (behind (uses_of length) (type_uses element) a))
    type-is (parsed.base_type name at bounds) a = is.a_base_type name at bounds (resolved_bounds (standing_at d scope) bounds) (bounds-are bounds a)
    type-is (parsed.status_type at bounds) a = is.a_status_type at bounds (resolved_bounds (standing_at d scope) bounds) (bounds-are bounds a)
    type-is (parsed.struct_type name) a = is.a_struct name (number_or ((standing_at d scope).structure name.text.0)) (struct-means d h name.text.0 a.0)

    bounds-are : (b : BoundsTree) → AreKept d scope (bounds_uses b) → ResolvesBounds d scope b (resolved_bounds (standing_at d scope) b)
    bounds-are parsed.unrefined a = is.no_bounds
    bounds-are (parsed.refined low high) a =
        is.two_bounds low (resolved_part (standing_at d scope) low) high (resolved_expr (standing_at d scope) high)
        (part-is low (front (part_uses low) (uses_of high) a)) (expr-is high (behind (part_uses low) (uses_of high) a))
