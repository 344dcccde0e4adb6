-- Several tables as one.
use Rattle.std.specs.Prelude.{◌≡◌, ℕ, List, ◌++◌, All, Option, Some, IfSome, Ok, length, map}
use Rattle.std.specs.Borrow.{Bor}
use Rattle.std.specs.List.{flat_map}
use Rattle.split_table.specs.Table.{Titled, table_of}
use Rattle.split_table.specs.TableLeft.{Record, TableLeft}

-- the records of tables, one after the other
abbrev pub records_of_all : List Titled → List Record
records_of_all tables = flat_map (λ table. table.records) tables

-- how many records each table has
abbrev pub counts_of : List Titled → List ℕ
counts_of tables = map (λ table. length table.records) tables

-- the texts are those of tables that have these titles
pub record AreTables (texts : List (Bor (List ℕ))) (titles : Record) (tables : List Titled) : Type 0 where
  pub are_of : map (λ text. table_of text.now) texts ≡ map Ok tables
  pub alike : All (λ table. table.titles ≡ titles) tables

-- a text is that of a table with the titles of each of the texts, and with the records of all, one after the other, so many of each
pub record IsJoined (texts : List (Bor (List ℕ))) (text : List ℕ) (counts : List ℕ) : Type 0 where
  pub titles : Record
  pub tables : List Titled
  pub are_tables : AreTables texts titles tables
  pub whole : table_of text ≡ Ok (record { titles = titles; records = records_of_all tables })
  pub counted : counts ≡ counts_of tables

-- of the records that a table had left these were the first, and those behind them are left now
abbrev pub Passed : List Record → Option (List Record) → Option (List Record) → Type 0
Passed records before after = IfSome before (λ all. (rest : List Record) × (all ≡ records ++ rest) × (after ≡ Some rest))

-- the records that a part had left, so many, were the first that the whole had left
abbrev pub AreNext : Option (List Record) → Option (List Record) → Option (List Record) → ℕ → Type 0
AreNext before part after count = IfSome part (λ records. Passed records before after × (count ≡ length records))

-- a text is that of a table with the titles of the whole, and its records, so many, were the first that the whole had left
pub record IsPart (before after : TableLeft) (text : List ℕ) (count : ℕ) : Type 0 where
  pub table : Titled
  pub is_table : table_of text ≡ Ok table
  pub alike : table.titles ≡ before.titles
  pub passed : Passed table.records before.left after.left
  pub counted : count ≡ length table.records

-- the texts are those of tables with the titles of the whole, whose records, so many of each, were the first that the whole had left
pub record AreParts (before after : TableLeft) (texts : List (Bor (List ℕ))) (counts : List ℕ) : Type 0 where
  pub tables : List Titled
  pub are_tables : AreTables texts before.titles tables
  pub passed : Passed (records_of_all tables) before.left after.left
  pub counted : counts ≡ counts_of tables
