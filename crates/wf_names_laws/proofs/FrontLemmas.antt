-- In an order of the methods each calls only those before it.
use Rattle.std.proofs.Common.{◌≡◌, ℕ, zero, suc, ◌<◌, ◌≤◌, Bool, true, false, not, ◌&&◌, ◌||◌, List, [], ◌∷◌, ◌++◌, length, take, Option, Some, None, slice_get, nat_eq, nat_lt, refl, sym, ap, ◌∙◌, subst, inl, inr, arith, append_assoc}
use Rattle.std.specs.List.{list_any, flat_map}
use Rattle.std.proofs.lemmas.Bool.Decides.{nat_tests}
use Rattle.wf_text.specs.declared.rules.Refusal.{Refusal}
use Rattle.wf_text.specs.declared.rules.Rule.TheVariants.{N4, L6}
use Rattle.wf_text.specs.Precedence.{Decides}
use Rattle.wf_ast.specs.declared.parsed.WrittenMark.{WrittenMark}
use Rattle.wf_ast.specs.ParsedTree as parsed
use Rattle.wf_ast.specs.ParsedTree.{DeclTree, CallTree}
use Rattle.wf_ast.proofs.TreeLemmas.{slice_get-seam}
use Rattle.wf_named.specs.NamedTree.{NamedMethodTree, NamedPackageTree}
use Rattle.wf_named.specs.WellNamed.{block_calls_only, method_calls_only, is_among, calls_in_front}
use Rattle.wf_names_rules.specs.declared.callees.Callee.{Callee}
use Rattle.wf_names_rules.specs.declared.callees.Callee.TheVariants as callees
use Rattle.wf_names_rules.specs.Declarations.{Method, Declared, declared, methods_of}
use Rattle.wf_names_rules.specs.Uses as uses
use Rattle.wf_names_rules.specs.Uses.{Use, Scope, block_uses, result_uses, variable_uses, method_uses, method_scope, constant_sites, struct_sites, method_sites, sites}
use Rattle.wf_names_rules.specs.Meanings.{known_at, callee_of}
use Rattle.wf_names_rules.specs.NameRules.{DeclarationBreaks, too_many_methods, UseBreaks, CycleBreaks, recursion, IsUsed, is_callee, calls_it, method_calls, calls}
use Rattle.graphs.specs.Graphs.{Path, last, more, holds, goes}
use Rattle.graphs.proofs.NumberLemmas.{number_self, holds_at}
use Rattle.wf_names_uses.specs.Fitting.{is_open}
use Rattle.wf_names_scopes.specs.UsesFound.{uses_found}
use Rattle.wf_names_uses.proofs.UseLaws.{uses_found-decides}
use Rattle.wf_names_uses.proofs.MeaningLaws.{calls-fit}
use Rattle.wf_names_uses.proofs.ClosedUses.{In, in-behind, in-place, place-in, in-flat, in-scope, site}
use Rattle.wf_names_scopes.specs.CallRows.{AreRows}
use Rattle.wf_names_resolve.specs.Standing.{standing_at}
use Rattle.wf_names_resolve.specs.Resolved.{resolved_block}
use Rattle.wf_names_resolve.specs.Package.{method_in, resolved_methods, resolved_package}
use Rattle.graphs.specs.Orders.{IsOrder, HasCycle}
use Rattle.wf_names_laws.specs.Calling.{AreOpen}
use Rattle.graphs.proofs.WalkLemmas.{holds-pushed}
use Rattle.graphs.proofs.OrderLemmas.{once-apart, goes-below}
use Rattle.wf_names_laws.proofs.CallingLemmas.{both-so, fine_callee, is_fine, are_fine, fine-parts, block-only}

-- The methods of a resolved package are those that are declared.
pub methods-long : (d : Declared) (decls : List DeclTree) → length (resolved_methods d decls) ≡ length (methods_of decls)
methods-long d [] = refl
methods-long d (parsed.status public text at ∷ decls) = methods-long d decls
methods-long d (parsed.constant public name of value at ∷ decls) = methods-long d decls
methods-long d (parsed.structure public name mark fields at ∷ decls) = methods-long d decls
methods-long d (parsed.method public owner name mark args result body at ∷ decls) = ap suc (methods-long d decls)

method-at : (d : Declared) (decls : List DeclTree) (a : ℕ) (m : Method) → slice_get (methods_of decls) a ≡ Some m → (mark : WrittenMark) × (slice_get (resolved_methods d decls) a ≡ Some (method_in d mark m))
method-at d [] a m h = absurd (cc h)
method-at d (parsed.status public text at ∷ decls) a m h = method-at d decls a m h
method-at d (parsed.constant public name of value at ∷ decls) a m h = method-at d decls a m h
method-at d (parsed.structure public name mark fields at ∷ decls) a m h = method-at d decls a m h
method-at d (parsed.method public owner name mark args result body at ∷ decls) (suc a) m h = method-at d decls a m h
method-at d (parsed.method public owner name mark args result body at ∷ decls) zero m h = (mark, ap (λ o. made o) h)
  where
    made : Option Method → Option NamedMethodTree
    made None = None
    made (Some x) = Some (method_in d mark x)

-- A method's uses stand among those of its package.
method-used : (d : Declared) (m : Method) (u : Use) → In m d.methods → In u (method_uses m) → IsUsed d (method_scope d m) u
method-used d m u is h =
    let s = site (method_scope d m) u in
    let spot : In s (method_sites d m) = in-scope (method_scope d m) (uses.structure m.owner ∷ method_uses m) u (inr h) in
    let methods : In s (flat_map (method_sites d) d.methods) = in-flat (method_sites d) s d.methods m is spot in
    in-place s (sites d)
    (in-behind s (constant_sites [] d.constants) (flat_map (struct_sites d) d.structs ++ flat_map (method_sites d) d.methods)
    (in-behind s (flat_map (struct_sites d) d.structs) (flat_map (method_sites d) d.methods) methods))

or_left : (x y : Bool) → x ≡ true → (x || y) ≡ true
or_left true y h = refl
or_left false y h = absurd (cc h)

or_right : (x y : Bool) → y ≡ true → (x || y) ≡ true
or_right true y h = refl
or_right false y h = h

module _ (d : Declared) (scope : Scope) (known : ℕ → Bool) where
  fine-callee : (c : CallTree) (callee : Callee) → callee_of (known_at d scope) c ≡ callee → is_open callee ≡ true
      → ((b : ℕ) → calls_it d scope b (uses.method c) ≡ true → known b ≡ true) → fine_callee known callee ≡ true
  fine-callee c (callees.Own m) e o h = h m (ap (λ callee. is_callee m callee) e ∙ number_self m)
  fine-callee c (callees.Base sig) e o h = refl
  fine-callee c (callees.Hidden m) e o h = absurd (cc o)
  fine-callee c callees.Foreign e o h = absurd (cc o)
  fine-callee c callees.Missing e o h = absurd (cc o)
  fine-callee c callees.Baseless e o h = absurd (cc o)

  -- Uses whose calls are of known methods that may be called.
  fine-uses : (us : List Use) → ((c : CallTree) → In (uses.method c) us → is_open (callee_of (known_at d scope) c) ≡ true)
      → ((b : ℕ) → list_any (calls_it d scope b) us ≡ true → known b ≡ true) → are_fine d scope known us ≡ true
  fine-uses [] o h = refl
  fine-uses (u ∷ us) o h =
      both-so (is_fine d scope known u) (are_fine d scope known us) (first u (λ c e. o c (inl e)) (λ b k. h b (or_left (calls_it d scope b u) (list_any (calls_it d scope b) us) k)))
      (fine-uses us (λ c m. o c (inr m)) (λ b k. h b (or_right (calls_it d scope b u) (list_any (calls_it d scope b) us) k)))
    where
      first : (v : Use) → ((c : CallTree) → v ≡ uses.method c → is_open (callee_of (known_at d scope) c) ≡ true) → ((b : ℕ) → calls_it d scope b v ≡ true → known b ≡ true)
          → is_fine d scope known v ≡ true
      first (uses.own_status text) p k = refl
      first (uses.base_status text) p k = refl
      first (uses.variable path) p k = refl
      first (uses.structure name) p k = refl
      first (uses.method c) p k = fine-callee c (callee_of (known_at d scope) c) refl (p c refl) k

-- The body of a method calls only what is known, where that is all that the method calls.
pub body-only : (d : Declared) (m : Method) (known : ℕ → Bool) → AreOpen d → In m d.methods → ((b : ℕ) → method_calls d (Some m) b ≡ true → known b ≡ true)
    → block_calls_only known (resolved_block (standing_at d (method_scope d m)) [] m.body) ≡ true
body-only d m known opens is h =
    let scope = method_scope d m in
    let fine = fine-uses d scope known (method_uses m) (λ c p. opens scope c (method-used d m (uses.method c) is p)) h in
    let p = fine-parts d scope known (variable_uses m.args) (result_uses m.result ++ block_uses m.body) fine in
    let q = fine-parts d scope known (result_uses m.result) (block_uses m.body) p.1 in
    block-only d scope known [] m.body q.1

take-seam : (ks js : List ℕ) → take (length ks) (ks ++ js) ≡ ks
take-seam [] js = refl
take-seam (k ∷ ks) js = ap (λ l. k ∷ l) (take-seam ks js)

there : {X : Type 0} (xs : List X) (a : ℕ) → a < length xs → (x : X) × (slice_get xs a ≡ Some x)
there [] a h = absurd (omega (arith, h))
there (x ∷ xs) zero h = (x, refl)
there (x ∷ xs) (suc a) h = there xs a (omega (arith, h))

pub not-true : (t : Bool) → (t ≡ true → ⊥) → not t ≡ true
not-true true h = absurd (h refl)
not-true false h = refl

module _ (rows : List (List ℕ)) (order : List ℕ) (ordered : IsOrder rows order) where
  -- No number of an order stands in it twice, and all that it goes to stand before it.
  pub twice : (front back : List ℕ) (a : ℕ) → order ≡ front ++ a ∷ back → holds front a ≡ true → ⊥
  twice front back a split h =
      let seam : slice_get order (length front) ≡ Some a = ap (λ l. slice_get l (length front)) split ∙ slice_get-seam front a back in
      let whole : take (length front) order ≡ front = ap (take (length front)) split ∙ take-seam front (a ∷ back) in
      once-apart order (length front) a ordered.once seam (ap (λ l. holds l a) whole ∙ h)

  pub placed : (front back : List ℕ) (a : ℕ) → order ≡ front ++ a ∷ back → a < length rows
  placed front back a split =
      let seam : slice_get order (length front) ≡ Some a = ap (λ l. slice_get l (length front)) split ∙ slice_get-seam front a back in
      ordered.within a (holds_at order (length front) a seam)

  pub behind : (front back : List ℕ) (a b : ℕ) → order ≡ front ++ a ∷ back → goes rows a b ≡ true → holds front b ≡ true
  behind front back a b split g =
      let seam : slice_get order (length front) ≡ Some a = ap (λ l. slice_get l (length front)) split ∙ slice_get-seam front a back in
      let whole : take (length front) order ≡ front = ap (take (length front)) split ∙ take-seam front (a ∷ back) in
      sym (ap (λ l. holds l b) whole) ∙ ordered.behind (length front) a b seam g

module _ (texts : List (List ℕ)) (decls : List DeclTree) (name : List ℕ) (order struct_order : List ℕ) (rows : List (List ℕ))
    (made : AreRows (declared texts decls) rows (length (methods_of decls))) (ordered : IsOrder rows order) where
  abbrev d : Declared
  d = declared texts decls

  abbrev p : NamedPackageTree
  p = resolved_package name texts decls order struct_order

  pub order-long : nat_eq (length p.order) (length p.methods) ≡ true
  order-long =
      let long : length order ≡ length (resolved_methods d decls) = ordered.whole ∙ made.len ∙ sym (methods-long d decls) in
      let P : ℕ → Type 0 = λ n. nat_eq (length order) n ≡ true in subst P long (number_self (length order))

  -- A method with what stands before it.
  method-front : AreOpen d → (front back : List ℕ) (a : ℕ) (known : ℕ → Bool) → order ≡ front ++ a ∷ back → ((b : ℕ) → holds front b ≡ true → known b ≡ true)
      → method_calls_only known (slice_get p.methods a) ≡ true
  method-front opens front back a known split knows =
      let below : a < length rows = placed rows order ordered front back a split in
      let m = there (methods_of decls) a (omega (arith, below, made.len)) in
      let resolved = method-at d decls a m.0 m.1 in
      let calls_known : (b : ℕ) → method_calls d (Some m.0) b ≡ true → known b ≡ true = λ b k.
      let g : goes rows a b ≡ true = made.made a b (omega (arith, below, made.len)) ∙ ap (λ o. method_calls d o b) m.1 ∙ k in
      knows b (behind rows order ordered front back a b split g) in
      ap (method_calls_only known) resolved.1 ∙ body-only d m.0 known opens (place-in m.0 (methods_of decls) a m.1) calls_known

  in-front-from : AreOpen d → (front rest seen : List ℕ) → order ≡ front ++ rest → ((b : ℕ) → is_among seen b ≡ holds front b) → calls_in_front p seen rest ≡ true
  in-front-from opens front [] seen split same = refl
  in-front-from opens front (a ∷ back) seen split same =
      both-so (method_calls_only (is_among seen) (slice_get p.methods a)) (not (is_among seen a) && calls_in_front p (a ∷ seen) back)
      (method-front opens front back a (is_among seen) split (λ b h. same b ∙ h))
      (both-so (not (is_among seen a)) (calls_in_front p (a ∷ seen) back)
      (not-true (is_among seen a) (λ h. twice rows order ordered front back a split (sym (same a) ∙ h)))
      (in-front-from opens (front ++ a ∷ []) back (a ∷ seen) (split ∙ sym (append_assoc front (a ∷ []) back)) (λ b. ap (λ t. nat_eq b a || t) (same b) ∙ sym (holds-pushed front a b))))

  pub order-front : AreOpen d → calls_in_front p [] order ≡ true
  order-front opens = in-front-from opens [] order [] refl (λ b. refl)

-- Where nothing breaks a rule of uses, nothing is found, and every call is open.
pub calls-open : (d : Declared) → Decides (UseBreaks d) None → AreOpen d
calls-open d none scope c used = (calls-fit d (nothing-found (uses_found d None) (uses_found-decides d)) scope c used).open_here
  where
    nothing-found : (o : Option Refusal) → Decides (UseBreaks d) o → o ≡ None
    nothing-found None h = refl
    nothing-found (Some r) h = absurd (none r h.breaks)

-- A cycle of the graph of calls breaks a rule, and where no rule of declarations is broken the graph is small.
pub cycle-breaks : (d : Declared) (rows : List (List ℕ)) → AreRows d rows (length d.methods) → HasCycle rows → (s : Refusal) × CycleBreaks d s
cycle-breaks d rows made c =
    let begun : c.0 < length rows = begins c.0 c.0 c.1 in
    let m = there d.methods c.0 (omega (arith, begun, made.len)) in
    (record { rule = N4; at = m.0.name.at }, recursion c.0 m.0 m.1 (way c.0 c.0 c.1))
  where
    begins : (a b : ℕ) → Path (goes rows) a b → a < length rows
    begins _ _ (last a b s) = goes-below rows a b s
    begins _ _ (more a b c s p) = goes-below rows a b s

    step : (a b : ℕ) → goes rows a b ≡ true → calls d a b ≡ true
    step a b g = sym (made.made a b (omega (arith, goes-below rows a b g, made.len))) ∙ g

    way : (a b : ℕ) → Path (goes rows) a b → Path (calls d) a b
    way _ _ (last a b s) = last a b (step a b s)
    way _ _ (more a b c s p) = more a b c (step a b s) (way b c p)

pub rows-few : (d : Declared) (rows : List (List ℕ)) → AreRows d rows (length d.methods) → Decides (DeclarationBreaks d) None → length rows ≤ 1024
rows-few d rows made none = at_most (nat_lt 1024 (length d.methods)) refl
  where
    at_most : (t : Bool) → nat_lt 1024 (length d.methods) ≡ t → length rows ≤ 1024
    at_most true e = let m = there d.methods 1024 (let l : 1024 < length d.methods = grind (arith, nat_tests, e) in l) in absurd (none (record { rule = L6; at = m.0.name.at }) (too_many_methods m.0 m.1))
    at_most false e = let l : length d.methods ≤ 1024 = grind (arith, nat_tests, e) in omega (arith, l, made.len)
