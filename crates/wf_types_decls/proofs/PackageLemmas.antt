-- A whole package: what stands round its methods, and what its parts come to.
use Rattle.std.proofs.Common.{◌≡◌, ◌∙◌, refl, sym, ap, List, [], ◌++◌, map, Option, None, option_map, Some}
use Rattle.std.specs.List.{flat_map}
use Rattle.wf_text.specs.declared.rules.Refusal.{Refusal}
use Rattle.wf_base.specs.declared.marks.Mark.{Mark}
use Rattle.wf_ast.specs.declared.types.Ty.{Ty}
use Rattle.wf_named.specs.NamedParts.{NamedParts, exprs_of, stmts_of, named_package}
use Rattle.wf_named.specs.NamedTree.{VarTree, NamedStructTree, NamedMethodTree, NamedPackageTree}
use Rattle.wf_named.specs.NamedTrees.{word_at, const_made, struct_made, method_made}
use Rattle.wf_named.specs.WellNamed.{fields_in}
use Rattle.wf_types_rules.specs.declared.settings.Role.{Role}
use Rattle.wf_types_rules.specs.declared.settings.Role.TheVariants as roles
use Rattle.wf_types_rules.specs.declared.settings.Setting.{Setting}
use Rattle.wf_types_rules.specs.DeclaredTypes.{declared, among_constants, constants_after, for_types, types_in, result_in, in_method}
use Rattle.wf_types_rules.specs.FirstBreak.{deciding}
use Rattle.wf_types_rules.specs.Parts.{status_declared, variables_parts, at_sites, const_sites, method_sites, sites}
use Rattle.wf_types_exprs.specs.Judged.{judged}
use Rattle.wf_types_decls.specs.Packages.{decided, IsAround, field_types}
use Rattle.wf_types_decls.proofs.DeclarationLemmas.{decided-append, decided-sites}

-- What a resolved package is made of.
pub consts_are : (n : NamedParts) → (named_package n).consts ≡ map (const_made n.texts (exprs_of n)) n.consts
unfolding named_package
consts_are n = refl

pub statuses_are : (n : NamedParts) → (named_package n).statuses ≡ map (word_at n.texts) n.statuses
unfolding named_package
statuses_are n = refl

pub structs_are : (n : NamedParts) → (named_package n).structs ≡ map (struct_made n.texts (exprs_of n)) n.structs
unfolding named_package
structs_are n = refl

pub methods_are : (n : NamedParts) → (named_package n).methods ≡ map (method_made n.texts (exprs_of n) (stmts_of n)) n.methods
unfolding named_package
methods_are n = refl

-- The types of what is declared, where `s` is what they are read with.
module _ (p : NamedPackageTree) (s : Setting) (e : s ≡ for_types p) where
  pub types_known : (role : Role) (xs : List VarTree) (of : List (Option Ty)) → of ≡ map (λ (x : VarTree). declared s role x.of) xs → of ≡ types_in p role xs
  types_known role xs of h = h ∙ ap (λ t. map (λ (x : VarTree). declared t role x.of) xs) e

  pub result_known : (m : NamedMethodTree) (of : Option (Option Ty)) → of ≡ option_map (declared s (roles.Result m.mark)) m.gives → of ≡ result_in p m
  result_known m of h = h ∙ ap (λ t. option_map (declared t (roles.Result m.mark)) m.gives) e

pub fields_known : (n : NamedParts) (s : Setting) → s ≡ for_types (named_package n) → (of : List (List (Option Ty)))
    → of ≡ map (λ (x : NamedStructTree). map (λ (y : VarTree). declared s roles.Field y.of) x.fields) (map (struct_made n.texts (exprs_of n)) n.structs) → of ≡ field_types (named_package n)
fields_known n s e of h =
    h ∙ ap (λ t. map (λ (x : NamedStructTree). map (λ (y : VarTree). declared t roles.Field y.of) x.fields) (map (struct_made n.texts (exprs_of n)) n.structs)) e
    ∙ ap (λ xs. map (λ (x : NamedStructTree). types_in (named_package n) roles.Field x.fields) xs) (sym (structs_are n))

-- What stands round the body of a method.
pub method_entered : (p : NamedPackageTree) (m : NamedMethodTree) (around : Setting) (own args locals : List (Option Ty)) (mark : Mark) (gives : Option (Option Ty)) → IsAround p around
    → own ≡ types_in p roles.Field (fields_in p (Some m.of)) → args ≡ types_in p roles.Arg m.args → locals ≡ types_in p roles.Local m.locals → mark ≡ m.mark → gives ≡ result_in p m
    → (s : Setting) → s ≡ record around { fields = own; args = args; locals = locals; mark = mark; gives = gives } → s ≡ in_method p m
method_entered p m around own args locals mark gives h f a l k g s is = rw (is, h.constants, h.methods, h.statuses, f, a, l, k, g) refl

-- The whole.
deciding_plain : (p : NamedPackageTree) → deciding p ≡ decided None (sites p)
unfolding deciding decided
deciding_plain p = refl

sites_plain : (p : NamedPackageTree) → sites p ≡ const_sites [] p.consts ++ (at_sites (for_types p) (map status_declared p.statuses)
    ++ (at_sites (for_types p) (flat_map (λ (x : NamedStructTree). variables_parts roles.Field x.fields) p.structs) ++ flat_map (method_sites p) p.methods))
unfolding sites
sites_plain p = refl

pub all_decided : (p : NamedPackageTree) (first second last : Option Refusal) → first ≡ decided None (const_sites [] p.consts)
    → second ≡ judged (for_types p) first (map status_declared p.statuses)
    → last ≡ decided second (at_sites (for_types p) (flat_map (λ (x : NamedStructTree). variables_parts roles.Field x.fields) p.structs) ++ flat_map (method_sites p) p.methods)
    → last ≡ deciding p
all_decided p first second last f g h =
    let s = for_types p in
    let X = const_sites [] p.consts in
    let own = map status_declared p.statuses in
    let Y = at_sites s own in
    let Z = at_sites s (flat_map (λ (x : NamedStructTree). variables_parts roles.Field x.fields) p.structs) ++ flat_map (method_sites p) p.methods in
    h ∙ ap (λ b. decided b Z) (g ∙ sym (decided-sites s first own) ∙ ap (λ b. decided b Y) f)
    ∙ sym (decided-append (decided None X) Y Z) ∙ sym (decided-append None X (Y ++ Z)) ∙ ap (decided None) (sym (sites_plain p)) ∙ sym (deciding_plain p)

pub for_types_known : (n : NamedParts) (s : Setting) → s ≡ among_constants (constants_after [] (map (const_made n.texts (exprs_of n)) n.consts)) → s ≡ for_types (named_package n)
for_types_known n s e = e ∙ ap (λ cs. among_constants (constants_after [] cs)) (sym (consts_are n))
