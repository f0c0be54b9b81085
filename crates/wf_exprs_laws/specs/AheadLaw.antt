-- A number whose bytes are all there: the expression that takes them at once has the number that they spell, and takes no undefined step.
use Rattle.std.specs.Prelude.{◌≤◌, ◌<◌, ◌-◌, ◌^◌, ℕ, Bool, true, false, List}
use Rattle.wf_base.specs.declared.widths.Width.{Width}
use Rattle.wf_base.specs.BaseOps.{Buffer, IsLawful, little_endian, big_endian, taken}
use Rattle.wf_base.specs.BaseTable.{bits_of, bytes_of}
use Rattle.wf_ast.specs.declared.types.Ty.TheVariants as types
use Rattle.c_meaning.specs.CExprs.{Surroundings}
use Rattle.wf_exprs.specs.Names.{Names}
use Rattle.wf_exprs.specs.Exprs.{calculated, number_ahead}
use Rattle.wf_exprs_laws.specs.ExprLaw.{GivesNumber, BufferStands, BytesStand}

abbrev pub spelt : (big : Bool) → List ℕ → ℕ
spelt true bytes = big_endian bytes
spelt false bytes = little_endian bytes

abbrev pub IsAheadLaw : Type 0
IsAheadLaw = (names : Names) (x : Surroundings) (a : ℕ) (b : Buffer) (width : Width) (big : Bool) → IsLawful b
    → BufferStands names x a types.Reader b → BytesStand names x a b → 8 < bits_of width → bytes_of width ≤ b.wi - b.ri
    → GivesNumber x (number_ahead names a (bits_of width) big) (calculated (bits_of width)) (spelt big (taken (bytes_of width) b))
    × (spelt big (taken (bytes_of width) b) < 2 ^ bits_of width)
