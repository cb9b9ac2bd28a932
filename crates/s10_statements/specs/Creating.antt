-- Defines why the creation of a ledger is refused.
use Rattle.std.specs.Prelude.{◌⊎◌, codes, IsSome, ⊤}
use Rattle.sqlite_schema.specs.declared.schema.Schema.{Schema}
use Rattle.sqlite_schema.specs.Names.{table_named}
use Rattle.s10_rows.specs.declared.open_fault.OpenFault.{OpenFault}
use Rattle.s10_rows.specs.declared.open_fault.OpenFault.TheVariants.{NotALedger}
use Rattle.s10_rows.specs.declared.open_fault.OpenFault.TheVariants.{Schema as OtherSchema, Damaged}
use Rattle.s10_rows.specs.declared.open_fault.OpenFault.TheVariants.{NotEmpty, Memory, Store}

-- A table with one of the five names exists.
abbrev pub HasOneOfTheNames : Schema → Type 0
HasOneOfTheNames s = IsSome (table_named s (codes "head")) ⊎ (IsSome (table_named s (codes "calls"))
    ⊎ (IsSome (table_named s (codes "ranges")) ⊎ (IsSome (table_named s (codes "serials"))
    ⊎ IsSome (table_named s (codes "closed")))))

-- The fault is why the creation of a ledger in this database is refused.
abbrev pub IsCreateRefusal : Schema → OpenFault → Type 0
IsCreateRefusal s NotALedger = ⊥
IsCreateRefusal s (OtherSchema n) = ⊥
IsCreateRefusal s (Damaged k) = ⊥
IsCreateRefusal s NotEmpty = HasOneOfTheNames s
IsCreateRefusal s Memory = ⊤
IsCreateRefusal s Store = ¬ HasOneOfTheNames s
