-- Forms, the parsed values that are read from nodes. `Read` defines the form of a node, and `Print` the node that a
-- form is written as.
use Rattle.std.specs.Prelude.{ℕ, List, [], ◌∷◌}
use Rattle.openapi_node.specs.Tree.{Tree}
use Rattle.openapi_tables.specs.Kind.{Code}
use Rattle.openapi_tables.specs.Members.{Choice}

-- The key of an entry of a map or of a class of names: a text or a status code.
pub data Key : Type 0 where
  name : List ℕ → Key
  coded : Code → Key

-- A form: the parsed value of a node under a kind. `fields` holds one form for each row, which is its slot.
mutual
  pub data Form : Type 0 where
    absent : Form
    leaf : Tree → Form
    of_code : Code → Form
    known : List ℕ → Form
    other : List ℕ → Form
    unset : Form
    reference : List ℕ → Form
    an_item : Form → Form
    sequence : Forms → Form
    named : Named → Form
    deciding : List ℕ → Form → Form
    fields : Choice → Forms → Form

  pub data Forms : Type 0 where
    no_forms : Forms
    more : Form → Forms → Forms

  pub data Named : Type 0 where
    no_named : Named
    under : Key → Form → Named → Named

-- A key and the value at that key.
pub record Pair (X : Type 0) : Type 0 where
  pub key : Key
  pub value : X

-- The root of a form: its variant with its data, and an X for each form inside.
pub data Face (X : Type 0) : Type 0 where
  f_absent : Face X
  f_leaf : Tree → Face X
  f_code : Code → Face X
  f_known : List ℕ → Face X
  f_other : List ℕ → Face X
  f_unset : Face X
  f_reference : List ℕ → Face X
  f_item : X → Face X
  f_sequence : List X → Face X
  f_named : List (Pair X) → Face X
  f_deciding : List ℕ → X → Face X
  f_fields : Choice → List X → Face X

-- A form and the result of a function for it.
pub record Shown (X : Type 0) : Type 0 where
  pub form : Form
  pub answer : X

-- `Forms` as a list of forms
abbrev pub forms_list : Forms → List Form
forms_list no_forms = []
forms_list (more f fs) = f ∷ forms_list fs

-- a list of forms as `Forms`
abbrev pub forms_of : List Form → Forms
forms_of [] = no_forms
forms_of (f ∷ fs) = more f (forms_of fs)

-- the entries of a map or class as a list
abbrev pub named_list : Named → List (Pair Form)
named_list no_named = []
named_list (under n f es) = record { key = n; value = f } ∷ named_list es

-- the map or class with the entries of a list
abbrev pub named_of : List (Pair Form) → Named
named_of [] = no_named
named_of (e ∷ es) = under e.key e.value (named_of es)

-- Recursion over a form: `of_form g` is `g` of the root, which holds each form inside with its own result.
abbrev mutual
  pub of_form : {X : Type 0} → (Face (Shown X) → X) → Form → X
  of_form g absent = g f_absent
  of_form g (leaf t) = g (f_leaf t)
  of_form g (of_code c) = g (f_code c)
  of_form g (known s) = g (f_known s)
  of_form g (other s) = g (f_other s)
  of_form g unset = g f_unset
  of_form g (reference s) = g (f_reference s)
  of_form g (an_item f) = g (f_item (record { form = f; answer = of_form g f }))
  of_form g (sequence fs) = g (f_sequence (of_forms g fs))
  of_form g (named es) = g (f_named (of_named g es))
  of_form g (deciding n f) = g (f_deciding n (record { form = f; answer = of_form g f }))
  of_form g (fields c fs) = g (f_fields c (of_forms g fs))

  pub of_forms : {X : Type 0} → (Face (Shown X) → X) → Forms → List (Shown X)
  of_forms g no_forms = []
  of_forms g (more f fs) = record { form = f; answer = of_form g f } ∷ of_forms g fs

  pub of_named : {X : Type 0} → (Face (Shown X) → X) → Named → List (Pair (Shown X))
  of_named g no_named = []
  of_named g (under n f es) = record { key = n; value = record { form = f; answer = of_form g f } } ∷ of_named g es
