-- What a resolved package breaks of the rules of types doesn't depend on the order in which its methods are told.
use Rattle.std.proofs.Common.{◌≡◌, ℕ, List, Option, slice_get, refl, sym, ap, ◌∙◌}
use Rattle.wf_text.specs.declared.place.Place.{Place}
use Rattle.wf_text.specs.declared.rules.Refusal.{Refusal}
use Rattle.wf_ast.specs.ParsedTree.{DeclTree}
use Rattle.wf_named.specs.NamedTree.{NamedPackageTree}
use Rattle.wf_names_resolve.specs.Package.{resolved_package}
use Rattle.wf_types_rules.specs.declared.settings.Setting.{Setting}
use Rattle.wf_types_rules.specs.Parts.{Part, Site, sites}
use Rattle.wf_types_rules.specs.TypeRules.{IsWrong, Breaks}

-- Packages with the same parts break the same rules.
module _ (p q : NamedPackageTree) (same : sites p ≡ sites q) where
  moved : (judge : Setting → Part → Option Place) (at : Place) → IsWrong p judge at → IsWrong q judge at
  moved judge at w = record {
    around = w.around;
    part = w.part;
    stands = (w.stands.0, ap (λ (list : List Site). slice_get list w.stands.0) (sym same) ∙ w.stands.1);
    wrong = w.wrong;
  }

  breaks-same : (s : Refusal) → Breaks p s → Breaks q s
  breaks-same s b = record { judge = b.judge; is_rule = b.is_rule; is_wrong = moved b.judge s.at b.is_wrong }

sites-same : (name : List ℕ) (texts : List (List ℕ)) (decls : List DeclTree) (order struct_order other struct_other : List ℕ) → sites (resolved_package name texts decls order struct_order) ≡ sites (resolved_package name texts decls other struct_other)
unfolding sites
sites-same name texts decls order struct_order other struct_other = refl

pub any-order : (name : List ℕ) (texts : List (List ℕ)) (decls : List DeclTree) (order struct_order other struct_other : List ℕ) (s : Refusal)
    → Breaks (resolved_package name texts decls order struct_order) s → Breaks (resolved_package name texts decls other struct_other) s
any-order name texts decls order struct_order other struct_other s b =
    breaks-same (resolved_package name texts decls order struct_order) (resolved_package name texts decls other struct_other) (sites-same name texts decls order struct_order other struct_other) s b
