-- What stays when it is written and read again. A form is read from a node, and written as a node from which a form is
-- read again. A form stays if no schema of `any_sort` in it is written as a schema of another sort (`stays` in
-- specs/Stays.antt). Three facts are proved, each first for rows, then for objects and schemas, and then for all kinds:
--
-- 1. A form that was read and stays is unchanged when it is written and read again: RowsBack, ObjectsBack, SortsBack,
--    KindsBack, and for all kinds ReadAgain (`read_again`).
-- 2. A form that was read and is unchanged when it is written and read again stays: RowsStay, and for all kinds
--    FirstValue (`first_stays`).
-- 3. A proper form that is written and read again stays: RowsSettle, SchemasSettle, and for all kinds AllSettle
--    (`calm_all`).
--
-- Cleaned combines them: a proper form that was written and read once is in stable form.
pub mod RowsBack
pub mod ObjectsBack
pub mod SortsBack
pub mod KindsBack
pub mod ReadAgain
pub mod RowsStay
pub mod FirstValue
pub mod RowsSettle
pub mod SchemasSettle
pub mod AllSettle
pub mod Cleaned
