-- What methods declare, and their bodies after it.
use Rattle.std.proofs.Common.{◌≡◌, ◌∙◌, refl, sym, ap, subst, ℕ, ◌<◌, List, [], ◌∷◌, ◌++◌, length, map, get_or, Option, None, option_map, Result, Ok, Err, IfOk}
use Rattle.std.specs.List.{flat_map}
use Rattle.std.proofs.lemmas.List.{length-map, get_or-map}
use Rattle.wf_text.specs.declared.rules.Refusal.{Refusal}
use Rattle.wf_ast.specs.declared.types.Ty.{Ty}
use Rattle.wf_named.specs.declared.declarations.NamedMethod.{NamedMethod}
use Rattle.wf_named.specs.NamedParts.{NamedParts, exprs_of, stmts_of, named_package}
use Rattle.wf_named.specs.NamedTree.{VarTree, NamedStructTree, NamedMethodTree, NamedPackageTree}
use Rattle.wf_named.specs.NamedTrees.{word_at, const_made, struct_made, method_made}
use Rattle.wf_types_rules.specs.declared.meanings.MethodType.{MethodType}
use Rattle.wf_types_rules.specs.declared.settings.Role.TheVariants as roles
use Rattle.wf_types_rules.specs.declared.settings.Setting.{Setting}
use Rattle.wf_types_rules.specs.DeclaredTypes.{declared, for_types, method_type, in_method}
use Rattle.wf_types_rules.specs.FirstBreak.{refusals_of, deciding}
use Rattle.wf_types_rules.specs.Parts.{Part, Site, status_declared, variables_parts, whole_body, block_parts, at_sites, const_sites, method_sites}
use Rattle.wf_types_exprs.specs.Judged.{judged}
use Rattle.wf_types_exprs.proofs.JudgedLaws.{judged-append, judged-none, soonest-swap}
use Rattle.wf_types_decls.specs.declared.heads.Head.{Head}
use Rattle.wf_types_decls.specs.Packages.{decided, head_parts, head_of, heads_of, body_sites}
use Rattle.wf_types_decls.proofs.DeclarationLemmas.{decided-append, decided-sites}
use Rattle.wf_types_decls.proofs.PackageLemmas.{consts_are, statuses_are, structs_are, methods_are, types_known, result_known, all_decided}

-- A method's arguments, its locals and its result.
pub head_judged : (s : Setting) (found first second third : Option Refusal) (xs ys zs : List Part) → first ≡ judged s found xs → second ≡ judged s first ys → third ≡ judged s second zs
    → third ≡ judged s found (xs ++ (ys ++ zs))
head_judged s found first second third xs ys zs e f g =
    g ∙ ap (λ b. judged s b zs) f ∙ sym (judged-append s first ys zs) ∙ ap (λ b. judged s b (ys ++ zs)) e ∙ sym (judged-append s found xs (ys ++ zs))

pub head_known : (p : NamedPackageTree) (s : Setting) → s ≡ for_types p → (m : NamedMethodTree) (args locals : List (Option Ty)) (gives : Option (Option Ty)) (of : Head)
    → of ≡ record { args = args; locals = locals; gives = gives } → args ≡ map (λ (x : VarTree). declared s roles.Arg x.of) m.args → locals ≡ map (λ (x : VarTree). declared s roles.Local x.of) m.locals
    → gives ≡ option_map (declared s (roles.Result m.mark)) m.gives → of ≡ head_of p m
head_known p s e m args locals gives of is a l g = rw (is, types_known p s e roles.Arg m.args args a, types_known p s e roles.Local m.locals locals l, result_known p s e m gives g) refl

-- The heads of all methods, one by one.
module _ (n : NamedParts) (heads : List Head) (e : heads ≡ heads_of (named_package n)) where
  heads_made : heads ≡ map (head_of (named_package n)) (map (method_made n.texts (exprs_of n) (stmts_of n)) n.methods)
  heads_made = e ∙ ap (map (head_of (named_package n))) (methods_are n)

  pub heads_long : length heads ≡ length n.methods
  heads_long =
      ap length heads_made ∙ length-map (map (method_made n.texts (exprs_of n) (stmts_of n)) n.methods) (head_of (named_package n))
      ∙ length-map n.methods (method_made n.texts (exprs_of n) (stmts_of n))

  pub heads_at : (i : ℕ) (m : NamedMethod) (h : Head) → i < length n.methods → m ≡ get_or n.methods i m → h ≡ get_or heads i h
      → h ≡ head_of (named_package n) (method_made n.texts (exprs_of n) (stmts_of n) m)
  heads_at i m h low is of =
      let made = method_made n.texts (exprs_of n) (stmts_of n) in
      let F = head_of (named_package n) in
      let within : i < length (map made n.methods) = subst (λ k. i < k) (sym (length-map n.methods made)) low in
      of ∙ ap (λ hs. get_or hs i h) heads_made ∙ get_or-map F (map made n.methods) i (made m) h within
      ∙ ap F (get_or-map made n.methods i m (made m) low) ∙ ap (λ x. F (made x)) (sym is)

pub type_in_head : (p : NamedPackageTree) (m : NamedMethodTree) (h : Head) → h ≡ head_of p m → (t : MethodType) → t ≡ record { mark = m.mark; args = h.args; gives = h.gives } → t ≡ method_type p m
type_in_head p m h e t is = rw (is, e) refl

-- A body with what stands round it.
pub body_decided : (p : NamedPackageTree) (m : NamedMethodTree) (s : Setting) (found next : Option Refusal) → s ≡ in_method p m → next ≡ judged s found (whole_body m.body ∷ block_parts m.body)
    → next ≡ decided found (body_sites p m)
body_decided p m s found next e f =
    let parts = whole_body m.body ∷ block_parts m.body in
    f ∙ sym (decided-sites s found parts) ∙ ap (λ t. decided found (at_sites t parts)) e

-- What decides doesn't depend on whether each method is judged as a whole, or first what all declare, and then all bodies.
decided-swap : (found : Option Refusal) (xs ys : List Site) → decided (decided found xs) ys ≡ decided (decided found ys) xs
unfolding decided
decided-swap found xs ys = soonest-swap found (flat_map refusals_of xs) (flat_map refusals_of ys)

pub heads_first : (p : NamedPackageTree) (found : Option Refusal) (ms : List NamedMethodTree)
    → decided found (flat_map (method_sites p) ms) ≡ decided (judged (for_types p) found (flat_map head_parts ms)) (flat_map (body_sites p) ms)
heads_first p found [] = ap (λ f. decided f []) (judged-none (for_types p) found)
heads_first p found (m ∷ ms) =
    let s = for_types p in
    let H = head_parts m in
    let B = body_sites p m in
    let others = flat_map head_parts ms in
    let bodies = flat_map (body_sites p) ms in
    let first = judged s found H in
    decided-append found (method_sites p m) (flat_map (method_sites p) ms)
    ∙ ap (λ f. decided f (flat_map (method_sites p) ms)) (decided-append found (at_sites s H) B ∙ ap (λ f. decided f B) (decided-sites s found H))
    ∙ heads_first p (decided first B) ms
    ∙ ap (λ f. decided f bodies)
    (sym (decided-sites s (decided first B) others) ∙ decided-swap first B (at_sites s others) ∙ ap (λ f. decided f B) (decided-sites s first others ∙ sym (judged-append s found H others)))
    ∙ sym (decided-append (judged s found (H ++ others)) B bodies)

-- All parts of a package, in the order in which they are judged.
pub package_decided : (n : NamedParts) (s : Setting) (consts statuses fields heads last : Option Refusal) → s ≡ for_types (named_package n)
    → consts ≡ decided None (const_sites [] (map (const_made n.texts (exprs_of n)) n.consts)) → statuses ≡ judged (for_types (named_package n)) consts (map status_declared (map (word_at n.texts) n.statuses))
    → fields ≡ judged s statuses (flat_map (λ (x : NamedStructTree). variables_parts roles.Field x.fields) (map (struct_made n.texts (exprs_of n)) n.structs))
    → heads ≡ judged s fields (flat_map head_parts (map (method_made n.texts (exprs_of n) (stmts_of n)) n.methods))
    → last ≡ decided heads (flat_map (body_sites (named_package n)) (map (method_made n.texts (exprs_of n) (stmts_of n)) n.methods)) → last ≡ deciding (named_package n)
package_decided n s consts statuses fields heads last e f g h k l =
    let p = named_package n in
    let t = for_types p in
    let F : List NamedStructTree → List Part = λ xs. flat_map (λ (x : NamedStructTree). variables_parts roles.Field x.fields) xs in
    let M = flat_map (method_sites p) p.methods in
    let bodies : List NamedMethodTree → List Site = λ ms. flat_map (body_sites p) ms in
    let fielded : fields ≡ decided statuses (at_sites t (F p.structs)) =
    h ∙ ap (λ u. judged u statuses (F (map (struct_made n.texts (exprs_of n)) n.structs))) e ∙ ap (λ xs. judged t statuses (F xs)) (sym (structs_are n)) ∙ sym (decided-sites t statuses (F p.structs)) in
    let headed : heads ≡ judged t fields (flat_map head_parts p.methods) =
    k ∙ ap (λ u. judged u fields (flat_map head_parts (map (method_made n.texts (exprs_of n) (stmts_of n)) n.methods))) e ∙ ap (λ ms. judged t fields (flat_map head_parts ms)) (sym (methods_are n)) in
    let rest : last ≡ decided statuses (at_sites t (F p.structs) ++ M) =
    l ∙ ap (λ ms. decided heads (bodies ms)) (sym (methods_are n)) ∙ ap (λ b. decided b (bodies p.methods)) headed ∙ sym (heads_first p fields p.methods) ∙ ap (λ b. decided b M) fielded
    ∙ sym (decided-append statuses (at_sites t (F p.structs)) M) in
    all_decided p consts statuses last (f ∙ ap (λ cs. decided None (const_sites [] cs)) (sym (consts_are n))) (g ∙ ap (λ ws. judged t consts (map status_declared ws)) (sym (statuses_are n))) rest

-- Four clauses of an answer make one.
pub all_four : {X E : Type 0} (A B C D R : X → Type 0) (r : Result X E) → ((x : X) → A x → B x → C x → D x → R x) → IfOk r A → IfOk r B → IfOk r C → IfOk r D → IfOk r R
all_four A B C D R (Ok x) f a b c d = f x a b c d
all_four A B C D R (Err e) f a b c d = tt
