-- A choice by a test, which is the library's.
pub use Rattle.std.specs.Prelude.{if◌then◌else◌}
