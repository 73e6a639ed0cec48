mod ArrivedLaws
mod FormattedLaws
mod TemplateLaws
