-- The entries of enumerations, read as values of one type.
use Rattle.std.specs.Prelude.{
  ◌≡◌,
  ℤ,
  Bool,
  true,
  false,
  List,
  Option,
  Some,
  None,
  Result,
  Ok,
  Err,
  String,
  string_bytes,
}
use Rattle.std.specs.Global.{Vec}
use Rattle.std.specs.declared.alloc.Global.{Global}
use Rattle.openapi_node.specs.Tree.{Tree, null, flag, whole, text}
use Rattle.openapi_node.specs.declared.fault.Fault.{Fault}
use Rattle.openapi_tables.specs.Lists.{each, every}

-- the nodes that texts, numbers and flags are written as
abbrev pub text_tree : String Global → Tree
text_tree s = text (string_bytes s)

abbrev pub number_tree : ℤ → Tree
number_tree z = whole z

abbrev pub signed_tree : ℤ → Tree
signed_tree z = whole z

abbrev pub flag_tree : Bool → Tree
flag_tree b = flag b

-- the node of an entry; null for `None`
abbrev pub entry_tree : {X : Type 0} → (X → Tree) → Option X → Tree
entry_tree tree_in None = null
entry_tree tree_in (Some x) = tree_in x

-- `Ok(Some(o))`: the node passes the test, and is that of the entry `o`. `Ok(None)`: the node does not pass.
-- `Err`: nothing is required
abbrev pub GivesEntry : {X : Type 0} → (Tree → Bool) → (X → Tree) → Result (Option (Option X)) Fault → Tree → Type 0
GivesEntry test tree_in (Ok None) t = test t ≡ false
GivesEntry test tree_in (Ok (Some o)) t = (test t ≡ true) × (entry_tree tree_in o ≡ t)
GivesEntry test tree_in (Err f) t = Unit {0}

-- `Ok(Some(v))`: all nodes pass the test, and are those of the entries in `v`. `Ok(None)`: some node does not pass.
-- `Err`: nothing is required
abbrev pub EntriesReadAs : {X : Type 0} → (Tree → Bool) → (X → Tree) → Result (Option (Vec (Option X))) Fault
    → List Tree → Type 0
EntriesReadAs test tree_in (Ok None) ts = every test ts ≡ false
EntriesReadAs test tree_in (Ok (Some v)) ts = (every test ts ≡ true) × (each (entry_tree tree_in) v.items ≡ ts)
EntriesReadAs test tree_in (Err f) ts = Unit {0}
