-- Sealing and opening, and what the steps of the walk compute.
use Rattle.std.specs.Prelude.{List, ℕ, get_or}
use Rattle.records.specs.RecordForms.{sealed_with, opened_with}
use Rattle.standard.specs.Books.{sealing_key, record_kind, plain_fault, seal_record, open_fault, inspection_runs, open_record, Conversion}
use Rattle.standard.specs.Bytes.{part}
use Rattle.standard.specs.Lists.{record_at}
use Rattle.standard.specs.Seals.{form, sealed, opened}
use Rattle.standard.specs.Sizes.{plain_size, sealed_size}
use Rattle.standard.specs.declared.Algorithm.TheVariants.{Ta31}
use Rattle.standard.specs.declared.Kind.{Kind}
use Rattle.standard.specs.declared.RingKey.TheVariants.{D}
use Rattle.books.specs.declared.direction.Direction.{Direction}
use Rattle.books.specs.declared.direction.Direction.TheVariants.{Sealing, Opening}

abbrev pub size_of : Direction → ℕ
size_of Sealing = plain_size
size_of Opening = sealed_size

abbrev pub output_size_of : Direction → ℕ
output_size_of Sealing = sealed_size
output_size_of Opening = plain_size

abbrev pub fault_of : List ℕ → Direction → List ℕ → ℕ
fault_of r Sealing = plain_fault
fault_of r Opening = open_fault r

abbrev pub inspection_of : Direction → List ℕ → ℕ
inspection_of Sealing = λ p. 0
inspection_of Opening = inspection_runs

abbrev pub record_of : List ℕ → Direction → List ℕ → List ℕ
record_of r Sealing = seal_record r
record_of r Opening = open_record r

abbrev pub conversion_of : List ℕ → Direction → Conversion
conversion_of r d = record { size = size_of d; output_size = output_size_of d; fault = fault_of r d; inspection = inspection_of d; convert = record_of r d }

-- the fault of record i of a book
abbrev pub fault_at : List ℕ → Direction → List ℕ → ℕ → ℕ
fault_at r d xs i = fault_of r d (record_at (size_of d) xs i)

-- the cipher runs of an inspection of it
abbrev pub inspection_at : Direction → List ℕ → ℕ → ℕ
inspection_at d xs i = inspection_of d (record_at (size_of d) xs i)

-- of four kinds, the one in lane j
abbrev pub kind_lane : List Kind → ℕ → Kind
kind_lane ks j = get_or ks j (record { algorithm = Ta31; under = D })

-- what a record of kind k becomes, from the output b of the cipher run that gives the ring's identity strings: what the core gives for it,
-- and what is made of that
abbrev pub core_of : List ℕ → Direction → Kind → List ℕ → List ℕ
core_of r Sealing k x = sealed (form k) ((form k).key (sealing_key k r) (part 4 2 x)) (part 6 12 x)
core_of r Opening k x = opened ((form k).key (sealing_key k r) (part 4 2 x)) (part 6 15 x)

abbrev pub made_of : Direction → Kind → (b x o : List ℕ) → List ℕ
made_of Sealing k = sealed_with
made_of Opening k = opened_with k

abbrev pub convert_of : List ℕ → List ℕ → Direction → List ℕ → List ℕ
convert_of r b d x = made_of d (record_kind x) b x (core_of r d (record_kind x) x)

-- of record i of a book
abbrev pub convert_at : List ℕ → List ℕ → Direction → List ℕ → ℕ → List ℕ
convert_at r b d xs i = convert_of r b d (record_at (size_of d) xs i)
