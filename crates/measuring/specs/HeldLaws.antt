-- From a row that was read to what measuring asks: what is kept of its nets has their netlength, and a legal placement of its cells
-- can be measured.
use Rattle.std.specs.Prelude.{ℕ, ◌*◌, ◌≡◌, true, List, length}
use Rattle.std.proofs.Common.{arith, sym}
use Rattle.std.proofs.lemmas.List.{length-map}
use Rattle.rules.specs.Row.{Row}
use Rattle.rules.specs.Length.{legal_from, legal, netlength}
use Rattle.rules.specs.Calls.{sites_from}
use Rattle.nets.specs.declared.Net.{Net}
use Rattle.nets.specs.Summary.{summary}
use Rattle.nets.specs.Span.{length_by}
use Rattle.nets.specs.LengthLaws.{length_by_ends}
use Rattle.reading.specs.Reads.{Holds}
use Rattle.reading.specs.ReadsLaws.{sound_tied, held_kept}
use Rattle.measuring.specs.Measures.{Measurable}

module _ (width : ℕ) (widths : List ℕ) (nets : List Net) (R : Row) (held : Holds width widths nets R) where
  as_many : length nets ≡ length R.nets
  as_many = rw held.nets_are (length-map R.nets (summary R.width))

  module _ (s : List ℕ) (long : length s ≡ 4 * length R.widths) (fits : legal R (sites_from s 0 (length R.widths)) ≡ true) where
    sites_fit : legal_from R.width 0 R.widths (sites_from s 0 (length R.widths)) ≡ true
    unfolding legal
    sites_fit = fits

    pub measurable : Measurable nets R.widths s
    measurable =
        record {
          few = omega (arith, as_many, held.sound.few_nets);
          long = omega arith;
          limit = R.width;
          near = held.sound.wide;
          fits = sites_fit;
          kept = λ k l. (held_kept width widths nets R held k (omega (arith, as_many))).0;
          light = λ k l. (held_kept width widths nets R held k (omega (arith, as_many))).1.1;
        }

    pub measured_length : length_by (sites_from s 0 (length R.widths)) nets ≡ netlength R (sites_from s 0 (length R.widths))
    unfolding netlength
    measured_length =
        rw held.nets_are
        (sym (length_by_ends R.width R.widths (sites_from s 0 (length R.widths)) R.nets sites_fit (sound_tied R held.sound)))
