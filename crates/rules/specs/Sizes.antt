-- The sizes of document 01, each named once beside the rule that it comes from.
use Rattle.std.specs.Prelude.{ℕ, ◌+◌, ◌*◌}

-- row and cell widths are at most this, and no fixed pin lies farther from site 0
abbrev pub widest : ℕ
widest = 1_000_000

abbrev pub most_cells : ℕ
most_cells = 256

abbrev pub most_nets : ℕ
most_nets = 512

-- rows of up to so many cells and nets are worked on in short lists
abbrev pub few_cells : ℕ
few_cells = 64

abbrev pub few_nets : ℕ
few_nets = 128

-- a net's weight is 1 up to this
abbrev pub heaviest : ℕ
heaviest = 1_000

-- FP and MP records together
abbrev pub most_pins : ℕ
most_pins = 2_048

-- changes carried that a bench in form may say
abbrev pub most_carried : ℕ
most_carried = 10_240

-- a bench: its mark and four numbers, then a part for each clump that there is room for
abbrev pub head_size : ℕ
head_size = 11

abbrev pub part_size : ℕ
part_size = 6

abbrev pub bench_size : ℕ
bench_size = head_size + part_size * most_cells
