-- What stands in a region, of typed trees: a tree all of whose places lie there. A region is whatever may hold of a place,
-- as that it lies in one file.
use Rattle.std.specs.Prelude.{⊤, Option, None, Some}
use Rattle.std.specs.List.{AllByRecursion}
use Rattle.wf_text.specs.declared.place.Place.{Place}
use Rattle.wf_ast.specs.TypedTree.{NumTree, number, read, element, link, convert, length_of, asked, SliceTree, slice, array, cut, EndTree, absent, present, StatusTree, status, held, no_status, CondTree, truth, flag, compare, same_status, junction, negation, closed, has_category, ValueTree, numeric, logical, state, elements, io, lost, Target, to_number, to_element, to_flag, to_status, to_slice, to_nothing, Awaited, take_number, skip, write, Written, skip_fast, write_fast, copy_to_writer, copy_to_slice, Axiom, Simple, assign, await, perform, invoke, break_from, continue_in, give_back, yield, claim, Head, Block, end, plain, choose, loop}
use Rattle.wf_ast.specs.TypedPackage.{PackageTree}

abbrev mutual
  pub NumIsIn : (Place → Type 0) → NumTree → Type 0
  NumIsIn In (number at n) = In at
  NumIsIn In (read at of path) = In at
  NumIsIn In (element at of cells index) = In at × SliceIsIn In cells × NumIsIn In index
  NumIsIn In (link at sign op bits joined a b) = In at × In sign × NumIsIn In a × NumIsIn In b
  NumIsIn In (convert at sign bits a) = In at × In sign × NumIsIn In a
  NumIsIn In (length_of at cells) = In at × SliceIsIn In cells
  NumIsIn In (asked at question io_arg) = In at

  pub SliceIsIn : (Place → Type 0) → SliceTree → Type 0
  SliceIsIn In (slice at bits path) = In at
  SliceIsIn In (array at of count path) = In at
  SliceIsIn In (cut at cells from to) = In at × SliceIsIn In cells × EndIsIn In from × EndIsIn In to

  pub EndIsIn : (Place → Type 0) → EndTree → Type 0
  EndIsIn In absent = ⊤
  EndIsIn In (present t) = NumIsIn In t

abbrev pub StatusIsIn : (Place → Type 0) → StatusTree → Type 0
StatusIsIn In (status at n) = In at
StatusIsIn In (held at path) = In at
StatusIsIn In no_status = ⊤

abbrev pub CondIsIn : (Place → Type 0) → CondTree → Type 0
CondIsIn In (truth at value) = In at
CondIsIn In (flag at path) = In at
CondIsIn In (compare at sign a op b) = In at × In sign × NumIsIn In a × NumIsIn In b
CondIsIn In (same_status at sign a one b) = In at × In sign × StatusIsIn In a × StatusIsIn In b
CondIsIn In (junction at both joined a b) = In at × CondIsIn In a × CondIsIn In b
CondIsIn In (negation at a) = In at × CondIsIn In a
CondIsIn In (closed at io_arg) = In at
CondIsIn In (has_category at a category) = In at × StatusIsIn In a

abbrev pub ValueIsIn : (Place → Type 0) → ValueTree → Type 0
ValueIsIn In (numeric t) = NumIsIn In t
ValueIsIn In (logical c) = CondIsIn In c
ValueIsIn In (state t) = StatusIsIn In t
ValueIsIn In (elements t) = SliceIsIn In t
ValueIsIn In (io at io_arg) = In at
ValueIsIn In lost = ⊤

abbrev pub TargetIsIn : (Place → Type 0) → Target → Type 0
TargetIsIn In (to_number at of path) = In at
TargetIsIn In (to_element at of cells index) = In at × SliceIsIn In cells × NumIsIn In index
TargetIsIn In (to_flag at path) = In at
TargetIsIn In (to_status at path) = In at
TargetIsIn In (to_slice at bits path) = In at
TargetIsIn In to_nothing = ⊤

abbrev pub AwaitedIsIn : (Place → Type 0) → Awaited → Type 0
AwaitedIsIn In (take_number form) = ⊤
AwaitedIsIn In (skip count) = NumIsIn In count
AwaitedIsIn In (write byte) = NumIsIn In byte

abbrev pub WrittenIsIn : (Place → Type 0) → Written → Type 0
WrittenIsIn In (skip_fast io_arg actual worst_case) = NumIsIn In actual × NumIsIn In worst_case
WrittenIsIn In (write_fast io_arg byte) = NumIsIn In byte
WrittenIsIn In (copy_to_writer io_arg source) = SliceIsIn In source
WrittenIsIn In (copy_to_slice target source) = SliceIsIn In target × SliceIsIn In source

abbrev pub AxiomIsIn : (Place → Type 0) → Axiom → Type 0
AxiomIsIn In a = In a.at × AllByRecursion (λ g. NumIsIn In g.1) a.given

-- What may be absent.
abbrev pub MayBeIn : {X : Type 0} → (X → Type 0) → Option X → Type 0
MayBeIn IsIn None = ⊤
MayBeIn IsIn (Some x) = IsIn x

abbrev pub SimpleIsIn : (Place → Type 0) → Simple → Type 0
SimpleIsIn In (assign target op value) = TargetIsIn In target × ValueIsIn In value
SimpleIsIn In (await at target io_arg call) = In at × TargetIsIn In target × AwaitedIsIn In call
SimpleIsIn In (perform at target call) = In at × TargetIsIn In target × WrittenIsIn In call
SimpleIsIn In (invoke at target keep mark called args) = In at × TargetIsIn In target × AllByRecursion (ValueIsIn In) args
SimpleIsIn In (break_from w) = ⊤
SimpleIsIn In (continue_in w) = ⊤
SimpleIsIn In (give_back value) = MayBeIn (ValueIsIn In) value
SimpleIsIn In (yield n) = ⊤
SimpleIsIn In (claim goal by) = CondIsIn In goal × MayBeIn (AxiomIsIn In) by

abbrev pub HeadIsIn : (Place → Type 0) → Head → Type 0
HeadIsIn In head = CondIsIn In head.cond × AllByRecursion (λ c. CondIsIn In c.1) head.clauses × In head.close

abbrev pub BlockIsIn : (Place → Type 0) → Block → Type 0
BlockIsIn In end = ⊤
BlockIsIn In (plain site s rest) = In site.at × SimpleIsIn In s × BlockIsIn In rest
BlockIsIn In (choose site chained c a b rest) = In site.at × CondIsIn In c × BlockIsIn In a × BlockIsIn In b × BlockIsIn In rest
BlockIsIn In (loop site head body rest) = In site.at × HeadIsIn In head × BlockIsIn In body × BlockIsIn In rest

-- The statements of all methods of a package.
abbrev pub BodiesAreIn : (Place → Type 0) → PackageTree → Type 0
BodiesAreIn In p = AllByRecursion (λ m. BlockIsIn In m.body) p.methods
