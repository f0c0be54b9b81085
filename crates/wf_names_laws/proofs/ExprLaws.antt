-- Expressions, calls and types whose uses keep the rules are named.
use Rattle.std.proofs.Common.{◌≡◌, ℕ, ◌+◌, ◌<◌, Bool, true, ◌&&◌, List, [], ◌∷◌, ◌++◌, length, Option, Some, None, option_map, nat_lt, is_some, refl, sym, ap, ◌∙◌, subst, inl, inr, arith}
use Rattle.std.specs.Str.{bytes_eq}
use Rattle.std.specs.List.{position_from}
use Rattle.std.proofs.lemmas.Bool.Decides.{nat_tests}
use Rattle.std.proofs.lemmas.Option.{slice_get_within}
use Rattle.wf_ast.specs.ParsedTree as tree
use Rattle.wf_ast.specs.ParsedTree.{ExprTree, PartTree, LinkTrees, GivenTrees, CallTree, TypeTree, BoundsTree}
use Rattle.wf_named.specs.WellNamed.{NamedScope as NamedScope, is_there, named_expr, named_part, named_links, named_call, named_type, named_bounds}
use Rattle.wf_names_rules.specs.Declarations.{Declared, is_spelt, text_of, status_named, struct_named}
use Rattle.wf_names_rules.specs.Uses as uses
use Rattle.wf_names_rules.specs.Uses.{Use, Scope, receiver_uses, uses_of, part_uses, link_uses, given_uses, call_uses, type_uses, bounds_uses}
use Rattle.wf_names_rules.specs.Meanings.{base_status_texts}
use Rattle.wf_names_uses.proofs.FoundLemmas.{both-so}
use Rattle.wf_names_resolve.specs.Standing.{standing_at}
use Rattle.wf_names_resolve.specs.Resolved.{number_or, base_status_number, resolved_path, resolved_expr, resolved_part, resolved_links, resolved_given, resolved_call, resolved_type, resolved_bounds}
use Rattle.wf_names_laws.specs.Kept.{IsKept, AreKept}
use Rattle.wf_names_laws.specs.ResolvedScopes.{IsScopeOf}
use Rattle.wf_names_laws.proofs.ListLemmas.{FoundAt, found-or-not, place-of, all-front, all-behind}
use Rattle.wf_names_laws.proofs.VariableLemmas.{path-there}
use Rattle.wf_names_laws.proofs.ArgumentLemmas.{AreNamed}
use Rattle.wf_names_laws.proofs.CalleeLemmas.{call-named}

pub below-so : (a b : ℕ) → a < b → nat_lt a b ≡ true
below-so a b h = grind (arith, nat_tests, h)

-- The number of what is declared under a text is that of an item.
pub number-below : {X : Type 0} (p : X → Bool) (xs : List X) → is_some (position_from p 0 xs) ≡ true → number_or (position_from p 0 xs) < length xs
number-below p xs h = elim (found-or-not p 0 xs) [
  | inl r ↦ found r
  | inr r ↦ absurd (cc (sym h ∙ ap (λ (o : Option ℕ). is_some o) r.placed))
]
  where
    found : FoundAt p 0 xs → number_or (position_from p 0 xs) < length xs
    found r = subst (λ o. number_or o < length xs) (sym (place-of p xs r)) (slice_get_within xs r.i r.x r.is)

-- The statuses of the language have numbers below 10.
base-status-below : (text : List ℕ) → base_status_number text < 10
base-status-below text = elim (found-or-not (bytes_eq text) 1 base_status_texts) [
  | inl r ↦ found r
  | inr r ↦ subst (λ o. number_or o < 10) (sym r.placed) (let none : 0 < 10 = omega arith in none)
]
  where
    found : FoundAt (bytes_eq text) 1 base_status_texts → base_status_number text < 10
    found r =
        let few : r.i < 9 = slice_get_within base_status_texts r.i r.x r.is in
        let below : 1 + r.i < 10 = omega (arith, few) in
        subst (λ o. number_or o < 10) (sym r.placed) below

module _ (d : Declared) (scope : Scope) (s : NamedScope) (known : IsScopeOf d scope s) where
  front : (us vs : List Use) → AreKept d scope (us ++ vs) → AreKept d scope us
  front us vs a = all-front (IsKept d scope) us vs a

  behind : (us vs : List Use) → AreKept d scope (us ++ vs) → AreKept d scope vs
  behind us vs a = all-behind (IsKept d scope) us vs a

  own-status : (text : ℕ) → is_some (status_named d text) ≡ true → nat_lt (number_or (option_map (λ n. 10 + n) (status_named d text))) (10 + length s.within.statuses) ≡ true
  own-status text h = by_number (status_named d text) h (number-below (is_spelt text) d.statuses h)
    where
      by_number : (o : Option ℕ) → is_some o ≡ true → number_or o < length d.statuses → nat_lt (number_or (option_map (λ n. 10 + n) o)) (10 + length s.within.statuses) ≡ true
      by_number None k b = absurd (cc k)
      by_number (Some n) k b = below-so (10 + n) (10 + length s.within.statuses) (omega (arith, b, known.statuses))

  base-status : (text : List ℕ) → nat_lt (base_status_number text) (10 + length s.within.statuses) ≡ true
  base-status text = below-so (base_status_number text) (10 + length s.within.statuses) (omega (arith, base-status-below text))

  pub struct-below : (text : ℕ) → is_some (struct_named d text) ≡ true → nat_lt (number_or (struct_named d text)) (length s.within.structs) ≡ true
  struct-below text h =
      below-so (number_or (struct_named d text)) (length s.within.structs) (let b = number-below (λ x. is_spelt text x.name) d.structs h in omega (arith, b, known.structs))

  mutual
    pub expr-named : (e : ExprTree) → AreKept d scope (uses_of e) → named_expr s (resolved_expr (standing_at d scope) e) ≡ true
    expr-named (tree.number value at) a = refl
    expr-named (tree.own_status text) a = own-status text.text.0 a.0
    expr-named (tree.base_status text at) a = base-status (text_of d text.text.0)
    expr-named (tree.fine at) a = below-so 0 (10 + length s.within.statuses) (omega arith)
    expr-named (tree.truth value at) a = refl
    expr-named (tree.path path) a = path-there d scope s known path a.0
    expr-named (tree.index base place at) a =
        both-so (is_there s (resolved_path (standing_at d scope) base)) (named_expr s (resolved_expr (standing_at d scope) place)) (path-there d scope s known base a.0) (expr-named place a.1)
    expr-named (tree.slice base from to at) a =
        both-so (is_there s (resolved_path (standing_at d scope) base)) (named_part s (resolved_part (standing_at d scope) from) && named_part s (resolved_part (standing_at d scope) to))
        (path-there d scope s known base a.0)
        (both-so (named_part s (resolved_part (standing_at d scope) from)) (named_part s (resolved_part (standing_at d scope) to))
        (part-named from (front (part_uses from) (part_uses to) a.1)) (part-named to (behind (part_uses from) (part_uses to) a.1)))
    expr-named (tree.answer c) a = made-named c a
    expr-named (tree.chain op first links at) a =
        both-so (named_expr s (resolved_expr (standing_at d scope) first)) (named_links s (resolved_links (standing_at d scope) links))
        (expr-named first (front (uses_of first) (link_uses links) a)) (links-named links (behind (uses_of first) (link_uses links) a))
    expr-named (tree.convert of to at) a =
        both-so (named_expr s (resolved_expr (standing_at d scope) of)) (named_type s (resolved_type (standing_at d scope) to))
        (expr-named of (front (uses_of of) (type_uses to) a)) (type-named to (behind (uses_of of) (type_uses to) a))
    expr-named (tree.negation of at) a = expr-named of a

    pub part-named : (e : PartTree) → AreKept d scope (part_uses e) → named_part s (resolved_part (standing_at d scope) e) ≡ true
    part-named tree.absent a = refl
    part-named (tree.present part) a = expr-named part a

    links-named : (ls : LinkTrees) → AreKept d scope (link_uses ls) → named_links s (resolved_links (standing_at d scope) ls) ≡ true
    links-named tree.no_link a = refl
    links-named (tree.link sign operand others) a =
        both-so (named_expr s (resolved_expr (standing_at d scope) operand)) (named_links s (resolved_links (standing_at d scope) others))
        (expr-named operand (front (uses_of operand) (link_uses others) a)) (links-named others (behind (uses_of operand) (link_uses others) a))

    pub given-named : (gs : GivenTrees) → AreKept d scope (given_uses gs) → AreNamed s (resolved_given (standing_at d scope) gs)
    given-named tree.no_given a = tt
    given-named (tree.more_given name value others) a =
        (expr-named value (front (uses_of value) (given_uses others) a), given-named others (behind (uses_of value) (given_uses others) a))

    pub made-named : (c : CallTree) → AreKept d scope (call_uses c) → named_call s (resolved_call (standing_at d scope) c) ≡ true
    made-named (tree.call on name mark args) a =
        let c = tree.call on name mark args in
        let b = behind (receiver_uses on) (given_uses args ++ uses.method c ∷ []) a in
        let fits = behind (given_uses args) (uses.method c ∷ []) b in
        let kept = front (given_uses args) (uses.method c ∷ []) b in
        call-named d scope s known on name mark args fits.0 kept (given-named args kept)

    pub type-named : (t : TypeTree) → AreKept d scope (type_uses t) → named_type s (resolved_type (standing_at d scope) t) ≡ true
    type-named (tree.slice_of at element) a = type-named element a
    type-named (tree.array_of length at element) a =
        both-so (named_expr s (resolved_expr (standing_at d scope) length)) (named_type s (resolved_type (standing_at d scope) element))
        (expr-named length (front (uses_of length) (type_uses element) a)) (type-named element (behind (uses_of length) (type_uses element) a))
    type-named (tree.base_type name at bounds) a = bounds-named bounds a
    type-named (tree.status_type at bounds) a = bounds-named bounds a
    type-named (tree.struct_type name) a = struct-below name.text.0 a.0

    bounds-named : (b : BoundsTree) → AreKept d scope (bounds_uses b) → named_bounds s (resolved_bounds (standing_at d scope) b) ≡ true
    bounds-named tree.unrefined a = refl
    bounds-named (tree.refined low high) a =
        both-so (named_part s (resolved_part (standing_at d scope) low)) (named_expr s (resolved_expr (standing_at d scope) high))
        (part-named low (front (part_uses low) (uses_of high) a)) (expr-named high (behind (part_uses low) (uses_of high) a))
