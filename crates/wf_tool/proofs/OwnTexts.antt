-- A package's own C text, where it is handed in, is read back to its tree, and so it runs as the package does.
use Rattle.std.proofs.Common.{◌≡◌, ◌≤◌, arith, ℕ, List, length, Option, Some, IfSome, sym, ap, ◌∙◌, subst, refl}
use Rattle.wf_text.specs.Surface.{Surface}
use Rattle.wf_ast.specs.ParsedParts.{Parsed}
use Rattle.wf_ast.specs.ParsedTree.{DeclTree}
use Rattle.wf_ast.specs.TypedPackage.{PackageTree, surface_of}
use Rattle.wf_ast.specs.ReadPackage.{decls_of}
use Rattle.wf_parse.proofs.OneReadings.{trees_unique}
use Rattle.wf_named.specs.NamedTree.{NamedPackageTree}
use Rattle.wf_names_resolve.specs.Package.{resolved_package}
use Rattle.wf_typed_tree.specs.ElaboratedPackage.{typed_package}
use Rattle.c_text.specs.CTree.{ItemTree}
use Rattle.c_read_grammar.specs.Outcomes.{Outcome, whole, too_deep, not_c, HasOutcome}
use Rattle.c_read_laws.proofs.Reading.{read-or-refused}
use Rattle.c_meaning.specs.UnitForm.{first_break}
use Rattle.c_step.specs.Loading.{SeenOf}
use Rattle.wf_lower.specs.Unit.{lowered_unit}
use Rattle.wf_script_rules.specs.Report.{End}
use Rattle.wf_tool_runs.specs.declared.texts.TextFault.{TextFault}
use Rattle.wf_tool_runs.specs.declared.texts.TextFault.TheVariants.{TooLong, TooDeep, NotC, NoSuchForm}
use Rattle.wf_tool_runs.specs.Lowered.{lowered_report}
use Rattle.wf_tool_runs.specs.Units.{RefusesText, most_text, text_report}
use Rattle.wf_tool.specs.declared.ending.Ending.{Ending}
use Rattle.wf_tool.specs.declared.ending.Ending.TheVariants as endings
use Rattle.wf_tool.specs.Answer.{IsUnitText}
use Rattle.wf_tool.specs.OwnTexts.{OwnTextsRunAsPackages, UnitTextsRunAlike}
use Rattle.wf_tool.specs.Runs.{IsAcceptedAs, IsReportOf, IsTextReportOf, ScriptCallsFor, TextCallsFor}
use Rattle.wf_tool.specs.Soundness.{in_order}
use Rattle.wf_tool.proofs.ByVerdict.{told-held, told-once}

-- A text has one outcome.
same-outcome : (text : List ℕ) (one two : Outcome) → HasOutcome text one → HasOutcome text two → one ≡ two
same-outcome text one two h k =
    let only = read-or-refused text in
    only.2 one h ∙ sym (only.2 two k)

module _ (seen : SeenOf) (p : PackageTree) (text : List ℕ) (is : IsUnitText p (lowered_unit p) text) (short : length text ≤ most_text) where
  -- It is read to its tree.
  read_whole : HasOutcome text (whole (lowered_unit p))
  read_whole = (is.spelt, is.shallow)

  one-tree : (items : List ItemTree) → HasOutcome text (whole items) → items ≡ lowered_unit p
  one-tree items h =
      let same = same-outcome text (whole items) (whole (lowered_unit p)) h read_whole in
      cc same

  -- So it isn't refused.
  not-refused : (fault : TextFault) → RefusesText (surface_of p) text fault → ⊥
  not-refused TooLong r = omega (arith, r, short)
  not-refused (TooDeep at) r = cc (same-outcome text (too_deep at) (whole (lowered_unit p)) r.1 read_whole)
  not-refused (NotC at) r = cc (same-outcome text (not_c at) (whole (lowered_unit p)) r.1 read_whole)
  not-refused (NoSuchForm item) r =
      let B : List ItemTree → Type 0 = λ items. first_break (surface_of p) items ≡ Some item in
      cc (is.form, subst B (one-tree r.1.0 r.1.1) r.1.2)

  module _ (bytes line : List ℕ) where
    own-reported : (end : End) → IsTextReportOf seen (surface_of p) bytes text line end → IsReportOf (surface_of p) (lowered_report seen p) bytes line end
    own-reported end r =
        let R : List ItemTree → Type 0 = λ items. IsReportOf (surface_of p) (text_report seen items (surface_of p)) bytes line end in
        subst R (one-tree r.items r.read) r.reported

    text-reported : (end : End) → IsReportOf (surface_of p) (lowered_report seen p) bytes line end → IsTextReportOf seen (surface_of p) bytes text line end
    text-reported end r = record { short = short; items = lowered_unit p; read = read_whole; form = is.form; reported = r }

    own-called : (ending : Ending) → TextCallsFor seen (surface_of p) bytes text ending line → ScriptCallsFor (surface_of p) (lowered_report seen p) bytes ending line
    own-called endings.Done c = own-reported _ c
    own-called endings.Refused c = c
    own-called endings.Usage c = c
    own-called endings.InputFault c = c
    own-called endings.OutputFault c = c
    own-called endings.ScriptRefused c = c
    own-called endings.NoMemory c = c
    own-called endings.Turns c = (c.0, own-reported _ c.1)
    own-called endings.TextRefused c = not-refused c.fault c.refused
    own-called endings.Undefined c = (c.0, own-reported _ c.1)

    text-called : (ending : Ending) → ScriptCallsFor (surface_of p) (lowered_report seen p) bytes ending line → TextCallsFor seen (surface_of p) bytes text ending line
    text-called endings.Done c = text-reported _ c
    text-called endings.Refused c = c
    text-called endings.Usage c = c
    text-called endings.InputFault c = c
    text-called endings.OutputFault c = c
    text-called endings.ScriptRefused c = c
    text-called endings.NoMemory c = c
    text-called endings.Turns c = (c.0, text-reported _ c.1)
    text-called endings.TextRefused c = absurd c
    text-called endings.Undefined c = (c.0, text-reported _ c.1)

pub unit-texts : UnitTextsRunAlike
unit-texts seen p text is short = record {
  as_package = λ bytes ending line c. own-called seen p text is short bytes line ending c;
  as_text = λ bytes ending line c. text-called seen p text is short bytes line ending c;
}

-- A package's surface doesn't depend on the orders in which its methods and its structs are told.
any-surface : (p : NamedPackageTree) (order struct_order : List ℕ) → surface_of (typed_package (record p { order = order; struct_order = struct_order })) ≡ surface_of (typed_package p)
unfolding surface_of typed_package
any-surface p order struct_order = refl

one-surface : (name : List ℕ) (files : List (List ℕ)) (p q : PackageTree) → IsAcceptedAs name files p → IsAcceptedAs name files q → surface_of p ≡ surface_of q
one-surface name files p q a b =
    let one : Parsed = a.verdict.read in
    let two : Parsed = b.verdict.read in
    let same = trees_unique name files one two a.verdict.parsed b.verdict.parsed in
    let S : List ℕ → List (List ℕ) → List DeclTree → Surface = λ of texts decls. surface_of (typed_package (resolved_package of texts decls a.order a.struct_order)) in
    ap surface_of a.tree
    ∙ (ap (λ (of : List ℕ). S of one.texts (decls_of one)) same.name
    ∙ (ap (λ (texts : List (List ℕ)). S two.name texts (decls_of one)) same.texts
    ∙ (ap (λ (decls : List DeclTree). S two.name two.texts decls) same.decls
    ∙ (any-surface (in_order two b.order b.struct_order) a.order a.struct_order
    ∙ sym (ap surface_of b.tree)))))

pub own-texts : OwnTextsRunAsPackages
own-texts seen held asked files p script other text ending line told holds accepted is short c =
    let F : List (List ℕ) → Type 0 = λ xs. IsAcceptedAs asked.package_name xs c.tree in
    let here : IsAcceptedAs asked.package_name files c.tree = subst F (told-once held asked.files files c.files told c.hold) c.accepted in
    let H : Option (List ℕ) → Type 0 = λ known. IfSome known (λ it. c.text_bytes ≡ it) in
    let same : c.text_bytes ≡ text = subst H holds c.text_holds in
    let T : List ℕ → Type 0 = λ it. TextCallsFor seen (surface_of c.tree) c.bytes it ending line in
    let S : Surface → Type 0 = λ surface. TextCallsFor seen surface c.bytes text ending line in
    let calls = subst S (one-surface asked.package_name files c.tree p here accepted) (subst T same c.calls) in
    record {
      files = files;
      bytes = c.bytes;
      tree = p;
      hold = told-held held asked.files files told;
      script_holds = c.script_holds;
      accepted = accepted;
      calls = own-called seen p text is short c.bytes line ending calls;
    }
