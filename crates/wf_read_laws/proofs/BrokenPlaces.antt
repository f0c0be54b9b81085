-- What a resolved package breaks of the rules of types and effects stands where the package stands.
use Rattle.std.proofs.Common.{IfSome}
use Rattle.std.specs.List.{AllByRecursion}
use Rattle.wf_text.specs.declared.place.Place.{Place}
use Rattle.wf_text.specs.declared.rules.Refusal.{Refusal}
use Rattle.wf_named.specs.NamedTree.{NamedPackageTree}
use Rattle.wf_types_rules.specs.declared.settings.Setting.{Setting}
use Rattle.wf_types_rules.specs.Parts.{Part, IsPart, sites}
use Rattle.wf_types_rules.specs.TypeRules.{TypeRule, type_rules, Breaks}
use Rattle.wf_read_laws.proofs.ListLemmas.{all-at}
use Rattle.wf_read_laws.specs.NamedPlaces.{PackageIsIn}
use Rattle.wf_read_laws.specs.TypePlaceLaws.{Where, RulesStandInPackages}
use Rattle.wf_read_laws.proofs.PlaceLemmas.{told-in}
use Rattle.wf_read_laws.proofs.PartPlaces.{PartIsIn, SiteIsIn, sites-in}
use Rattle.wf_read_laws.proofs.JudgedPlaces as judged

infixr 4 ◌&◌
◌&◌ : {A B : Type 0} → A → B → A × B
a & b = (a, b)

module _ (In : Place → Type 0) (p : NamedPackageTree) (there : PackageIsIn In p) where
  part-in : (s : Setting) (x : Part) → IsPart p s x → PartIsIn In x
  part-in s x stands = all-at (SiteIsIn In) (sites p) stands.0 (record { around = s; part = x }) (sites-in In p there) stands.1

  -- A judgement tells places where the part stands.
  abbrev Keeps : TypeRule → Type 0
  Keeps row = (s : Setting) (x : Part) → PartIsIn In x → IfSome (row.1 s x) In

  each-keeps : AllByRecursion Keeps type_rules
  each-keeps =
      judged.operand-kept In
      & judged.update-kept In
      & judged.argument-kept In
      & judged.letter-kept In
      & judged.type-kept In
      & judged.misplaced-kept In
      & judged.constant-number-kept In
      & judged.target-kept In
      & judged.assigned-kept In
      & judged.no-value-kept In
      & judged.condition-kept In
      & judged.return-kept In
      & judged.end-kept In
      & judged.without-value-kept In
      & judged.unfit-operand-kept In
      & judged.unfit-update-kept In
      & judged.outside-kept In
      & judged.crossed-kept In
      & judged.high-kept In
      & judged.elements-kept In
      & judged.element-kept In
      & judged.zero-kept In
      & judged.status-kept In
      & judged.impure-kept In
      & judged.written-kept In
      & judged.coroutine-kept In
      & judged.kept-outside-kept In
      & judged.yielded-outside-kept In
      & judged.inside-kept In
      & judged.mark-kept In
      & judged.no-status-kept In
      & judged.no-coroutine-kept In
      & judged.yield-kept In
      & tt

  pub breaks-in : (r : Refusal) → Breaks p r → In r.at
  breaks-in r b =
      let w = b.is_wrong in
      let keeps = all-at Keeps type_rules b.is_rule.0 (r.rule, b.judge) each-keeps b.is_rule.1 in
      told-in In (b.judge w.around w.part) r.at w.wrong (keeps w.around w.part (part-in w.around w.part w.stands))

pub rules_stand_in_packages : RulesStandInPackages
rules_stand_in_packages test p there s b = breaks-in (Where test) p there s b
