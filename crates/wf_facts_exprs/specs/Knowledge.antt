-- Facts over a package, of which some may be gone, beside the sets of those with each head.
use Rattle.std.specs.Prelude.{ℕ, ◌<◌, ◌≤◌, List, length}
use Rattle.wf_ast.specs.declared.typed_nodes.TypedNodes.{TypedNodes}
use Rattle.wf_facts_exprs.specs.declared.facts.Fact.{Fact}
use Rattle.wf_facts_exprs.specs.declared.known.Known.{Known}
use Rattle.wf_facts_exprs.specs.Claims.{AreFacts}
use Rattle.wf_facts_exprs.specs.Heads.{having_head}
use Rattle.wf_facts_exprs.specs.NumberedSets.{words_at}
use Rattle.wf_facts_exprs.specs.Sets.{IsSetOf, members, unmarked}

-- What is left of a list but for those that are gone.
abbrev pub left_of : (gone : List ℕ) → List Fact → List Fact
left_of gone fs = unmarked (members gone (length fs)) fs

abbrev pub told : Known → List Fact
told known = left_of known.gone.now.words known.list.now

pub record IsKnown (nodes : TypedNodes) (known : Known) : Type 0 where
  pub few : length known.list.now ≤ 512
  pub facts : AreFacts nodes known.list.now
  pub heads : (h : ℕ) → h < 256 → IsSetOf (words_at known.heads.now h) (having_head nodes h known.list.now)
