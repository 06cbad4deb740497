-- What a program may keep instead: the same answers (text_laws/FormWalk), from less.
pub mod FormKinds
