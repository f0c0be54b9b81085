use Rattle.std.proofs.Common.{◌∙◌, ◌++◌, ap, sym, map}
use Rattle.wf_ast.specs.BaseStatuses.{base_statuses}
use Rattle.wf_named.specs.NamedParts.{named_package}
use Rattle.wf_named.specs.NamedTree.{Word}
use Rattle.wf_types_rules.specs.declared.settings.Setting.{Setting}
use Rattle.wf_types_rules.specs.DeclaredTypes.{method_type}
use Rattle.wf_types_decls.proofs.PackageLemmas.{methods_are, statuses_are}
use Rattle.wf_types_decls.proofs.packages.round_methods.Goals as goal

pub returns : goal.returns
returns c =
    let n = c.args.nodes.now in
    record {
      constants = ap (λ (x : Setting). x.constants) c.requires.types;
      methods = c.in_ok-around.ensures ∙ ap (map (method_type (named_package n))) (sym (methods_are n));
      statuses = c.in_ok-around-2.ensures ∙ sym (ap (λ ws. base_statuses ++ map (λ (w : Word). w.text) ws) (statuses_are n));
    }
